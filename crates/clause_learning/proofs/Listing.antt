-- What is listed at the end of the walk.
use Rattle.std.proofs.Common.{◌≡◌, ℕ, List, Bool, Contains, sym, subst}
use Rattle.clause_arena.specs.State.{State as Arena}
use Rattle.cdcl_trail.specs.State.{State}
use Rattle.clause_learning.specs.declared.resolving.Resolvent.{Resolvent}
use Rattle.clause_learning.specs.Resolving.{IsResolvent, HasOther}
use Rattle.clause_learning.specs.Marking.{IsCovered, Ends, Lists}
use Rattle.clause_learning.proofs.Marked.{listed, unlisted}
use Rattle.clause_learning.proofs.Steps.{IsResolvent-listed}

-- the list is the resolvent, with one literal of the current level
pub listed_resolvent : (trail : State) (arena : Arena) (r : Resolvent) (place q : ℕ) (start : List Bool) (touched : List ℕ) (marks : List Bool)
    (clause : List ℕ) → start ≡ r.marks.items
    → touched ≡ r.touched.items → IsCovered trail.variables r → Ends trail arena r place q
    → (done : List ℕ) × ((k : ℕ) → Contains touched k → Contains done k) × Lists start done marks clause
    → IsResolvent trail arena clause place × Contains clause q × (HasOther trail clause q → ⊥)
listed_resolvent trail arena r place q start touched marks clause same_marks same_touched covered (literals, shows, resolvent, has, alone)
    (done, all, lists_start) = (
      IsResolvent-listed trail arena literals clause place resolvent to from lists.once,
      to q has,
      λ (k, m, n, on). alone (k, from k m, n, on),
    )
  where
    lists : Lists r.marks.items done marks clause
    lists = subst (λ (xs : List Bool). Lists xs done marks clause) same_marks lists_start

    to : (k : ℕ) → Contains literals k → Contains clause k
    to = listed trail trail.variables r literals done marks clause covered shows (λ k m. all k (subst (λ (xs : List ℕ). Contains xs k) (sym same_touched) m))
        lists

    from : (k : ℕ) → Contains clause k → Contains literals k
    from = unlisted trail r literals done marks clause shows lists
