-- What a step after complete propagation comes to.
use Rattle.std.proofs.Common.{◌≡◌, ℕ, ◌<◌, ◌+◌, List, length, get_or, Contains, None, true, false, refl, sym, subst, ap, ◌∙◌, arith}
use Rattle.std.proofs.lemmas.List.{length_push}
use Rattle.std.proofs.lemmas.List.Elements.{All-contains, Contains-get_or}
use Rattle.clause_meaning.specs.Literals.{opposite_of, variable_of, AreBelow}
use Rattle.clause_meaning.specs.Refutation.{Refutes}
use Rattle.clause_arena.specs.State.{State as Arena}
use Rattle.cdcl_trail.specs.Assigned.{IsTrueOn, IsUnassigned}
use Rattle.cdcl_trail.specs.State.{State, with_entry}
use Rattle.cdcl_trail.specs.Fits.{Fits, IsComplete}
use Rattle.clause_learning.specs.Searching.{Searched, AreAssumed}
use Rattle.clause_learning.proofs.Refuting.{false_assumption_refutes}
use Rattle.cdcl_core.specs.Seeking.{Seeks, Guesses, IsModelOn}
use Rattle.cdcl_core.proofs.Seeks.{none_guessed, Seeks-assume, Seeks-guess, is_in-contains, contains_in}
use Rattle.cdcl_core.proofs.Models.{counted_sought, IsModelOn-assigned}

-- an assumption's variable is in range
pub literal_in_range : (assume : List ℕ) (trail : State) (arena : Arena) (assumed l : ℕ) → Seeks assume trail arena assumed → Contains assume l
    → variable_of l < trail.variables
literal_in_range assume trail arena assumed l s m = All-contains (λ v. v < trail.variables) trail.focus (variable_of l) s.in_range
    (contains_in trail.focus (variable_of l) (s.inside l m))

pub assume_in_range : (assume : List ℕ) (trail : State) (arena : Arena) (assumed : ℕ) → Seeks assume trail arena assumed → AreBelow trail.variables assume
assume_in_range assume trail arena assumed s k d p = literal_in_range assume trail arena assumed (get_or assume k d) s (Contains-get_or assume k d p)

-- an assumption is false
pub step_refutes : (assume : List ℕ) (trail : State) (arena : Arena) (assumed l : ℕ) → Seeks assume trail arena assumed → Contains assume l
    → IsTrueOn trail.entries (opposite_of l)
    → Refutes (Searched trail arena) (Contains assume)
step_refutes assume trail arena assumed l s m off =
    let top = none_guessed assume trail arena assumed l s m (λ on. s.searching.fits.consistent l on off) in
    false_assumption_refutes trail arena (Contains assume) l s.searching (subst (AreAssumed (Contains assume) trail.entries) top s.given) m off

longer : (old new : State) (level l : ℕ) → new ≡ with_entry old level l None → length old.entries < length new.entries
longer old new level l is =
    let one = ap (λ (s : State). length s.entries) is ∙ length_push old.entries _ in
    omega (arith, one)

-- one is decided
pub step_decides : (assume : List ℕ) (trail new : State) (arena : Arena) (assumed l level : ℕ) → Seeks assume trail arena assumed → IsComplete trail arena
    → Contains assume l
    → IsUnassigned trail.entries (variable_of l) → new ≡ with_entry trail (trail.level + 1) l None → Fits new arena → level ≡ new.level
    → Seeks assume new arena level × (length trail.entries < length new.entries)
step_decides assume trail new arena assumed l level s complete m free is fits at =
    let top = none_guessed assume trail arena assumed l s m (λ on. free l refl on) in
    let next : Seeks assume (with_entry trail (trail.level + 1) l None) arena (trail.level + 1) =
    Seeks-assume assume trail arena assumed l s complete m top (subst (λ (t : State). Fits t arena) is fits) in (
      subst (Seeks assume new arena) (sym (at ∙ ap (λ (t : State). t.level) is)) (subst (λ (t : State). Seeks assume t arena (trail.level + 1)) (sym is) next),
      longer trail new (trail.level + 1) l is,
    )

-- a literal is guessed
pub step_guesses : (assume : List ℕ) (trail new : State) (arena : Arena) (assumed : ℕ) → Seeks assume trail arena assumed → IsComplete trail arena
    → ((l : ℕ) → Contains assume l → IsTrueOn trail.entries l)
    → Guesses trail new true → Fits new arena → Seeks assume new arena assumed × (length trail.entries < length new.entries)
step_guesses assume trail new arena assumed s complete all (l, m, counted, free, is) fits = (
  subst (λ (t : State). Seeks assume t arena assumed) (sym is)
      (Seeks-guess assume trail arena assumed l s complete all (is_in-contains trail.focus (variable_of l) m)
      (counted_sought assume trail arena l s.counted counted)
      (subst (λ (t : State). Fits t arena) is fits)),
  longer trail new (trail.level + 1) l is,
)

-- nothing is left to guess
pub step_models : (assume : List ℕ) (trail new : State) (arena : Arena) (assumed : ℕ) → Seeks assume trail arena assumed → IsComplete trail arena
    → ((l : ℕ) → Contains assume l → IsTrueOn trail.entries l)
    → Guesses trail new false → IsModelOn assume new arena
step_models assume trail new arena assumed s complete all (same, assigned) =
    subst (λ (t : State). IsModelOn assume t arena) (sym same) (IsModelOn-assigned assume trail arena assumed s complete all assigned)
