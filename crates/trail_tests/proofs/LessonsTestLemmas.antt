-- The clauses and the searches of the tests.
use Rattle.std.proofs.Common.{◌≡◌, ◌≢◌, ℕ, zero, suc, ◌<◌, ◌≤◌, ◌+◌, inl, List, [], ◌∷◌, length, All, Option, Some, None, IfNone, true, refl, sym, subst, ap}
use Rattle.std.proofs.Common.{◌∙◌, arith}
use Rattle.std.proofs.lemmas.List.Elements.{All-push, All-contains}
use Rattle.clause_meaning.specs.Literals.{variable_of}
use Rattle.clause_meaning.specs.Refutation.{IsClosed}
use Rattle.clause_arena.specs.State.{State as Arena, HeldClause, LiveIn, Holds, with_clause}
use Rattle.clause_arena.specs.declared.clause_ref.ClauseRef.{ClauseRef}
use Rattle.cdcl_trail.specs.Assigned.{IsTrueOn}
use Rattle.cdcl_trail.specs.State.{State, with_entry}
use Rattle.cdcl_trail.specs.Fits.{Fits, IsComplete, Grows}
use Rattle.clause_meaning.specs.Learning.{is_in}
use Rattle.clause_meaning.proofs.FewLiterals.{distinct_two, distinct_three, below_two, below_three}
use Rattle.clause_learning.specs.Searching.{Searched, IsSearching}
use Rattle.clause_learning.specs.Trials.{IsLong, AreLong, IsReady}
use Rattle.clause_learning.proofs.Reached.{closed_search}
use Rattle.clause_learning.proofs.Keeping.{IsSearching-start, IsSearching-decide}
use Rattle.clause_learning.proofs.Growing.{IsSearching-grows}

abbrev Below : ℕ → Type 0
Below l = variable_of l < 3

pub long_two : (k l : ℕ) → variable_of k < 3 → variable_of l < 3 → variable_of k ≢ variable_of l → IsLong (k ∷ l ∷ [])
long_two k l p q n = record { two = omega arith; in_range = below_two 3 k l p q; distinct = distinct_two k l n }

pub long_three : (k l m : ℕ) → variable_of k < 3 → variable_of l < 3 → variable_of m < 3 → variable_of k ≢ variable_of l → variable_of k ≢ variable_of m
    → variable_of l ≢ variable_of m
    → IsLong (k ∷ l ∷ m ∷ [])
long_three k l m p q r kl km lm = record { two = omega arith; in_range = below_three 3 k l m p q r; distinct = distinct_three k l m kl km lm }

pub long_pushed : (old new : Arena) (reference : ℕ) (clause : List ℕ) → AreLong old → IsLong clause → Holds old new (with_clause old.live reference clause)
    → AreLong new
long_pushed old new reference clause long this holds = record {
  variables = holds.variables ∙ long.variables;
  clauses = subst (All (λ (held : HeldClause). IsLong held.literals)) (sym holds.live)
      (All-push (λ (held : HeldClause). IsLong held.literals) old.live (record { reference = reference; literals = clause }) long.clauses this);
}

long_live : (arena : Arena) (clause : List ℕ) → AreLong arena → LiveIn arena clause → IsLong clause
long_live arena clause long (k, x, p, is, same) = subst IsLong same
    (All-contains (λ (held : HeldClause). IsLong held.literals) arena.live x long.clauses (k, p, is))

in_three : (v : ℕ) → v < 3 → is_in (0 ∷ 1 ∷ 2 ∷ []) v ≡ true
in_three zero h = refl
in_three (suc zero) h = refl
in_three (suc (suc zero)) h = refl
in_three (suc (suc (suc v))) h = absurd (omega arith)

pub three_in_focus : (trail : State) (l : ℕ) → trail.focus ≡ 0 ∷ 1 ∷ 2 ∷ [] → variable_of l < 3 → is_in trail.focus (variable_of l) ≡ true
three_in_focus trail l focus below = ap (λ (vs : List ℕ). is_in vs (variable_of l)) focus ∙ in_three (variable_of l) below

pub begins : (trail : State) (arena : Arena) → AreLong arena → Fits trail arena → trail.entries ≡ [] → trail.level ≡ 0 → trail.focus ≡ 0 ∷ 1 ∷ 2 ∷ []
    → IsSearching trail arena
begins trail arena long fits empty low focus =
    IsSearching-start trail arena fits
    (λ clause live. (let this = long_live arena clause long live in
    record { some = λ e. (let short : length clause ≡ 0 = ap length e in omega (arith, short, this.two)); distinct = this.distinct }))
    (λ clause live. inl (λ l m. three_in_focus trail l focus (All-contains Below clause l (long_live arena clause long live).in_range m)))
    empty low

-- a search that has propagated is closed, since there is no unit clause
ready_closed : (trail : State) (arena : Arena) → IsReady trail arena → IsClosed (Searched trail arena) (IsTrueOn trail.entries)
ready_closed trail arena ready =
    closed_search trail arena ready.searching ready.complete (λ u s.
    (let two : 2 ≤ length (u ∷ []) = (long_live arena (u ∷ []) ready.long s.0).two in absurd (omega (arith, two))))

pub guessed : (old middle new : State) (arena : Arena) (l : ℕ) → IsReady old arena → variable_of l < 3 → middle ≡ with_entry old (old.level + 1) l None
    → Fits middle arena
    → Grows middle new → Fits new arena → IsSearching new arena
guessed old middle new arena l ready below is fits_middle grows fits =
    IsSearching-grows middle new arena
    (subst (λ (t : State). IsSearching t arena) (sym is)
    (IsSearching-decide old arena l ready.searching (ready_closed old arena ready) (three_in_focus old l ready.focus below)
    (subst (λ (t : State). Fits t arena) is fits_middle)))
    grows fits

pub ready_again : (old middle new : State) (arena : Arena) (l : ℕ) → IsReady old arena → middle ≡ with_entry old (old.level + 1) l None → Grows middle new
    → IsSearching new arena
    → IsComplete new arena → new.settled ≡ length new.entries → IsReady new arena
ready_again old middle new arena l ready is grows searching complete settled = record {
  searching = searching;
  complete = complete;
  settled = settled;
  focus = grows.focus ∙ (ap (λ (t : State). t.focus) is ∙ ready.focus);
  long = ready.long;
}

-- what holds where no clause is falsified
pub where_none : (r : Option ClauseRef) (P Q R : Type 0) → IfNone r P → IfNone r Q → (P → Q → R) → IfNone r R
where_none None P Q R p q h = h p q
where_none (Some x) P Q R p q h = tt
