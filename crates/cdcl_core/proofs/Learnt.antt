-- What a store shows after a clause was learned, and before.
use Rattle.std.proofs.Common.{◌≡◌, ◌≢◌, ◌<◌, ◌≤◌, ℕ, ◌+◌, List, [], ◌∷◌, ◌++◌, length, get_or, AllPairs, Option, Some, false, refl, sym, subst, ap, ◌∙◌, arith}
use Rattle.std.specs.List.Sorted.{IsSorted}
use Rattle.std.specs.Ordering.{nat_cmp}
use Rattle.std.proofs.lemmas.List.{length_push}
use Rattle.std.proofs.lemmas.List.Sorted.{IsNonDecreasingBy-from_sort}
use Rattle.std.proofs.lemmas.List.Elements.{All-push}
use Rattle.clause_arena.specs.State.{State as Arena, HeldClause, Holds, LiveIn as ArenaLive, with_clause}
use Rattle.cdcl_trail.specs.State.{State as Trail}
use Rattle.clause_meaning.specs.Literals.{variable_of, HaveDistinctVariables}
use Rattle.clause_meaning.specs.Learning.{is_in}
use Rattle.clause_learning.specs.Searching.{Searched, IsSearching}
use Rattle.clause_learning.specs.Lessons.{IsLesson}
use Rattle.clause_learning.proofs.Borders.{IsLearnable-outside}
use Rattle.clause_learning.proofs.AfterLesson.{lesson_inside}
use Rattle.cdcl_core.specs.declared.labels.Label.{Label}
use Rattle.cdcl_core.specs.declared.outcome.SolveFault.{SolveFault}
use Rattle.cdcl_core.specs.declared.outcome.SolveFault.TheVariants as fault
use Rattle.cdcl_core.specs.State.{State, LiveClause, LiveIn, numbers_in}
use Rattle.cdcl_core.specs.Labels.{labelled}
use Rattle.cdcl_core.specs.Store.{StoreState, AreCounted, IsProper, AreProper, AreNumbered, IsKept}
use Rattle.cdcl_core.specs.Changes.{live_in}
use Rattle.proof_logs.specs.Logs.{LogContent}
use Rattle.cdcl_core.specs.Learning.{IsNew, with_learned}
use Rattle.cdcl_core.specs.Seeking.{LogRefuses, FailsOn, bare}
use Rattle.cdcl_core.proofs.Labelling.{labelled-push, numbers_in-push}
use Rattle.cdcl_core.proofs.Numbering.{AreNumbered-push}
use Rattle.cdcl_core.proofs.Shows.{same_state}
use Rattle.cdcl_core.proofs.StoreKept.{IsKept-same}
use Rattle.cdcl_core.proofs.Bare.{live_shown, shown_live, IsLearnable-same}

less_unless_same : (m n : ℕ) → m ≤ n → m ≢ n → m < n
less_unless_same m n up other = omega (arith, up, other)

-- what the store shows is told by its arena's clauses, its labels and the next number
pub bare-same : (p : StoreState) (arena : Arena) (labels : List Label) (trail : Trail) → Holds p.arena arena p.arena.live → labels ≡ p.labels
    → bare (record { arena = arena; labels = labels; trail = trail; next = p.next }) ≡ bare p
bare-same p arena labels trail holds same =
    same_state arena.variables p.arena.variables p.next p.next (labelled labels arena.live) (live_in p) holds.variables
    (ap (λ (ls : List Label). labelled ls arena.live) same ∙ ap (labelled p.labels) holds.live) refl

-- room was made for one more clause
pub IsKept-room : (p : StoreState) (arena : Arena) (labels : List Label) → IsKept p → Holds p.arena arena p.arena.live → labels ≡ p.labels
    → IsKept (record p { arena = arena; labels = labels })
IsKept-room p arena labels kept holds same =
    subst (λ (ls : List Label). IsKept (record p { arena = arena; labels = ls })) (sym same) (IsKept-same p arena kept holds)

-- one more clause, with the next number
pub IsKept-learned : (p : StoreState) (arena : Arena) (labels : List Label) (trail : Trail) (r : ℕ) (literals : List ℕ) → IsKept p
    → Holds p.arena arena (with_clause p.arena.live r literals)
    → IsProper p.arena.variables literals → AreCounted trail arena.live → trail.variables ≡ p.trail.variables
    → labels ≡ p.labels ++ record { number = Some p.next; goes = false } ∷ []
    → IsKept (record { arena = arena; labels = labels; trail = trail; next = p.next + 1 })
IsKept-learned p arena labels trail r literals kept holds proper counted variables is =
    let held : HeldClause = record { reference = r; literals = literals } in
    let label : Label = record { number = Some p.next; goes = false } in
    let entry : LiveClause = record { number = Some p.next; literals = literals } in
    let shown = ap (labelled (p.labels ++ label ∷ [])) holds.live ∙ labelled-push p.labels p.arena.live label held kept.parallel in
    subst (λ (ls : List Label). IsKept (record { arena = arena; labels = ls; trail = trail; next = p.next + 1 })) (sym is) (record {
      few = (let few = kept.few in let same = holds.variables in omega (arith, few, same));
      same_variables = variables ∙ (kept.same_variables ∙ sym holds.variables);
      parallel = length_push p.labels label ∙ (ap (λ (n : ℕ). n + 1) kept.parallel ∙ sym (ap length holds.live ∙ length_push p.arena.live held));
      stay = All-push (λ (l : Label). l.goes ≡ false) p.labels label kept.stay refl;
      proper = subst (λ (n : ℕ). AreProper n arena.live) (sym holds.variables) (subst (AreProper p.arena.variables) (sym holds.live)
          (All-push (λ (h : HeldClause). IsProper p.arena.variables h.literals) p.arena.live held kept.proper proper));
      counted = counted;
      numbered = subst (λ (live : List LiveClause). AreNumbered (p.next + 1) (numbers_in live)) (sym shown)
          (subst (AreNumbered (p.next + 1)) (sym (numbers_in-push (live_in p) entry)) (AreNumbered-push p.next (numbers_in (live_in p)) kept.numbered));
    })

pub bare-learned : (p : StoreState) (arena : Arena) (labels : List Label) (trail : Trail) (r : ℕ) (literals : List ℕ) → length p.labels ≡ length p.arena.live
    → Holds p.arena arena (with_clause p.arena.live r literals)
    → labels ≡ p.labels ++ record { number = Some p.next; goes = false } ∷ []
    → bare (record { arena = arena; labels = labels; trail = trail; next = p.next + 1 }) ≡ with_learned (bare p) (record { number = p.next; clause = literals })
bare-learned p arena labels trail r literals parallel holds is =
    let held : HeldClause = record { reference = r; literals = literals } in
    let label : Label = record { number = Some p.next; goes = false } in
    same_state arena.variables p.arena.variables (p.next + 1) (p.next + 1) (labelled labels arena.live)
    (live_in p ++ record { number = Some p.next; literals = literals } ∷ []) holds.variables
    (ap (λ (ls : List Label). labelled ls arena.live) is ∙ (ap (labelled (p.labels ++ label ∷ [])) holds.live
    ∙ labelled-push p.labels p.arena.live label held parallel)) refl

-- sorted literals of distinct variables ascend
ascending_literals : (literals : List ℕ) → IsSorted nat_cmp literals → HaveDistinctVariables literals → AllPairs (λ k l. k < l) literals
ascending_literals literals sorted distinct i j d before within =
    let up = IsNonDecreasingBy-from_sort (λ (l : ℕ). l) literals sorted i j d (omega (arith, before)) within in
    less_unless_same (get_or literals i d) (get_or literals j d) up (λ e. distinct i j d before within (ap variable_of e))

-- the clause of a lesson is new to what the store shows
pub new_entry : (p : StoreState) (literals : List ℕ) (asserting back : ℕ) → length p.labels ≡ length p.arena.live → IsSearching p.trail p.arena
    → IsLesson (Searched p.trail p.arena) p.trail literals asserting back
    → IsSorted nat_cmp literals → IsNew (bare p) p.trail.focus (record { number = p.next; clause = literals })
new_entry p literals asserting back parallel searching lesson sorted = record {
  number = refl;
  lesson = record {
    ascending = ascending_literals literals sorted lesson.learnable.distinct;
    inside = lesson_inside p.trail p.arena literals asserting back lesson;
    learnable = IsLearnable-same (ArenaLive p.arena) (LiveIn (bare p)) literals (λ c m. live_shown p c parallel m) (λ c m. shown_live p c m)
        (IsLearnable-outside (is_in p.trail.focus) (ArenaLive p.arena) literals searching.separates (λ c m. (searching.proper c m).some) lesson.learnable);
  };
}

-- a log that refused it
pub FailsOn-refused : (old new : State) (scope : List ℕ) (before after : Option LogContent) (was now number : ℕ) (clause : List ℕ) (f : SolveFault)
    → IsNew old scope (record { number = number; clause = clause })
    → new ≡ old → LogRefuses before after was now number clause f → FailsOn old new scope before after was now f
FailsOn-refused old new scope before after was now number clause fault.Log fresh same (torn, rises) =
    (record { number = number; clause = clause }, fresh, same, torn, rises)
FailsOn-refused old new scope before after was now number clause fault.NoMemory fresh same (told, stays) = (same, told, stays)
