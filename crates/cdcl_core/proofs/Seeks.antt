-- What the steps of a search keep.
use Rattle.std.proofs.Common.{◌≡◌, ℕ, ◌<◌, ◌+◌, inl, inr, List, [], ◌∷◌, get_or, Contains, All, eqb, None, true, refl, sym, subst, arith}
use Rattle.std.proofs.lemmas.Bool.{cases_lt, eq-eqb, eqb-true}
use Rattle.std.proofs.lemmas.List.Folds.{list_any-from_Any, Any-from_list_any}
use Rattle.clause_meaning.specs.Literals.{variable_of}
use Rattle.clause_meaning.specs.Refutation.{IsClosed}
use Rattle.clause_meaning.specs.Assignments.{IsInside}
use Rattle.clause_arena.specs.State.{State as Arena}
use Rattle.cdcl_trail.specs.declared.trail_entry.TrailEntry.{TrailEntry}
use Rattle.cdcl_trail.specs.Assigned.{IsTrueOn}
use Rattle.cdcl_trail.specs.State.{State, with_entry}
use Rattle.cdcl_trail.specs.Fits.{Fits, IsComplete, Grows}
use Rattle.clause_learning.specs.Levels.{IsKnownAt}
use Rattle.clause_meaning.specs.Learning.{is_in}
use Rattle.clause_learning.specs.Searching.{LiveAmong, Searched, AreAssumed, UnitsStand}
use Rattle.clause_learning.proofs.LevelFacts.{known_true, true_known, known_later, IsKnownAt-append}
use Rattle.clause_learning.proofs.Reached.{closed_search}
use Rattle.clause_learning.proofs.Keeping.{IsSearching-decide}
use Rattle.clause_learning.proofs.Growing.{IsSearching-grows}
use Rattle.clause_learning.proofs.Assumed.{AreAssumed-assume, AreAssumed-guess, AreAssumed-append, UnitsStand-append}
use Rattle.cdcl_core.specs.Store.{AreCounted}
use Rattle.cdcl_core.specs.Seeking.{IsSought, Seeks, Begins}

-- the units of the focus, told by the clauses of another focus that is the same
UnitsStand-focus : (f g : List ℕ) (arena : Arena) (entries : List TrailEntry) → f ≡ g → UnitsStand (LiveAmong f arena) entries
    → UnitsStand (LiveAmong g arena) entries
UnitsStand-focus f g arena entries e h = subst (λ (vs : List ℕ). UnitsStand (LiveAmong vs arena) entries) e h

-- the units of a search stand on level 0
pub Seeks-start : (assume : List ℕ) (trail : State) (arena : Arena) → Begins trail arena → UnitsStand (Searched trail arena) trail.entries
    → AreCounted trail arena.live
    → All (λ v. v < trail.variables) trail.focus → IsInside (is_in trail.focus) assume → Seeks assume trail arena 0
Seeks-start assume trail arena b stand counted in_range inside = record {
  searching = b.searching;
  stand = stand;
  counted = counted;
  in_range = in_range;
  inside = inside;
  reached = omega arith;
  given = λ k d p none above up. absurd (omega (arith, above, up));
  sought = λ k d p none above up. (let zero_is = b.on_zero in absurd (omega (arith, above, up, zero_is)));
  known = λ below. (let zero_is = b.on_zero in absurd (omega (arith, below, zero_is)));
}

-- propagation keeps it
pub Seeks-grows : (assume : List ℕ) (old new : State) (arena : Arena) (assumed : ℕ) → Seeks assume old arena assumed → Grows old new → Fits new arena
    → Seeks assume new arena assumed
Seeks-grows assume old new arena assumed s grows fits =
    let level = grows.level in
    let reached = s.reached in record {
      searching = IsSearching-grows old new arena s.searching grows fits;
      stand = UnitsStand-focus old.focus new.focus arena new.entries (sym grows.focus)
          (subst (UnitsStand (Searched old arena)) (sym grows.added.1) (UnitsStand-append (Searched old arena) old.entries grows.added.0 s.stand));
      counted = subst (λ (cs : List ℕ). AreCounted (record new { counts = cs }) arena.live) (sym grows.counts) s.counted;
      in_range = subst (λ (n : ℕ). All (λ v. v < n) new.focus) (sym grows.variables) (subst (All (λ v. v < old.variables)) (sym grows.focus) s.in_range);
      inside = subst (λ (vs : List ℕ). IsInside (is_in vs) assume) (sym grows.focus) s.inside;
      reached = omega (arith, level, reached);
      given = subst (λ (es : List TrailEntry). AreAssumed (Contains assume) es assumed) (sym grows.added.1)
          (AreAssumed-append (Contains assume) old.entries grows.added.0 assumed grows.added.3 s.given);
      sought = subst (AreAssumed (IsSought assume arena) new.entries) (sym level)
          (subst (λ (es : List TrailEntry). AreAssumed (IsSought assume arena) es old.level) (sym grows.added.1)
          (AreAssumed-append (IsSought assume arena) old.entries grows.added.0 old.level grows.added.3 s.sought));
      known = λ below l m. subst (λ (es : List TrailEntry). IsKnownAt es assumed l) (sym grows.added.1)
          (IsKnownAt-append old.entries grows.added.0 assumed l (s.known (omega (arith, below, level)) l m));
    }

-- after complete propagation its literals are closed
pub Seeks-closed : (assume : List ℕ) (trail : State) (arena : Arena) (assumed : ℕ) → Seeks assume trail arena assumed → IsComplete trail arena
    → IsClosed (Searched trail arena) (IsTrueOn trail.entries)
Seeks-closed assume trail arena assumed s complete = closed_search trail arena s.searching complete s.stand

-- an assumption that isn't true is met only where each guess is one
pub none_guessed : (assume : List ℕ) (trail : State) (arena : Arena) (assumed l : ℕ) → Seeks assume trail arena assumed → Contains assume l
    → (IsTrueOn trail.entries l → ⊥) → assumed ≡ trail.level
none_guessed assume trail arena assumed l s m open_ =
    elim (cases_lt assumed trail.level) [
      | inl below ↦ absurd (open_ (known_true trail.entries assumed l (s.known below l m)))
      | inr high ↦ (let reached = s.reached in omega (arith, high, reached))
    ]

-- the next assumption is decided
pub Seeks-assume : (assume : List ℕ) (trail : State) (arena : Arena) (assumed l : ℕ) → Seeks assume trail arena assumed → IsComplete trail arena
    → Contains assume l → assumed ≡ trail.level
    → Fits (with_entry trail (trail.level + 1) l None) arena → Seeks assume (with_entry trail (trail.level + 1) l None) arena (trail.level + 1)
Seeks-assume assume trail arena assumed l s complete m top fits =
    let e : TrailEntry = record { literal = l; level = trail.level + 1; reason = None } in record {
      searching = IsSearching-decide trail arena l s.searching (Seeks-closed assume trail arena assumed s complete) (s.inside l m) fits;
      stand = UnitsStand-append (Searched trail arena) trail.entries (e ∷ []) s.stand;
      counted = s.counted;
      in_range = s.in_range;
      inside = s.inside;
      reached = omega arith;
      given = AreAssumed-assume (Contains assume) trail.entries e trail.level s.searching.searched.up_to m
          (subst (AreAssumed (Contains assume) trail.entries) top s.given);
      sought = AreAssumed-assume (IsSought assume arena) trail.entries e trail.level s.searching.searched.up_to (inl m) s.sought;
      known = λ below. absurd (omega (arith, below));
    }

-- where each assumption is true, they are known up to the level of the last one
all_known : (assume : List ℕ) (trail : State) (arena : Arena) (assumed : ℕ) → Seeks assume trail arena assumed
    → ((l : ℕ) → Contains assume l → IsTrueOn trail.entries l)
    → (l : ℕ) → Contains assume l → IsKnownAt trail.entries assumed l
all_known assume trail arena assumed s all l m =
    elim (cases_lt assumed trail.level) [
      | inl below ↦ s.known below l m
      | inr high ↦ known_later trail.entries trail.level assumed l (omega (arith, high))
          (true_known trail.entries trail.level l s.searching.searched.up_to (all l m))
    ]

-- another literal is guessed, where they all are true
pub Seeks-guess : (assume : List ℕ) (trail : State) (arena : Arena) (assumed l : ℕ) → Seeks assume trail arena assumed → IsComplete trail arena
    → ((k : ℕ) → Contains assume k → IsTrueOn trail.entries k)
    → is_in trail.focus (variable_of l) ≡ true → IsSought assume arena l → Fits (with_entry trail (trail.level + 1) l None) arena
    → Seeks assume (with_entry trail (trail.level + 1) l None) arena assumed
Seeks-guess assume trail arena assumed l s complete all here sought fits =
    let e : TrailEntry = record { literal = l; level = trail.level + 1; reason = None } in
    let reached = s.reached in record {
      searching = IsSearching-decide trail arena l s.searching (Seeks-closed assume trail arena assumed s complete) here fits;
      stand = UnitsStand-append (Searched trail arena) trail.entries (e ∷ []) s.stand;
      counted = s.counted;
      in_range = s.in_range;
      inside = s.inside;
      reached = omega (arith, reached);
      given = AreAssumed-guess (Contains assume) trail.entries e assumed (λ above. omega (arith, reached)) s.given;
      sought = AreAssumed-assume (IsSought assume arena) trail.entries e trail.level s.searching.searched.up_to sought s.sought;
      known = λ below k m. IsKnownAt-append trail.entries (e ∷ []) assumed k (all_known assume trail arena assumed s all k m);
    }

-- a variable of the list passes its test
pub is_in-contains : (variables : List ℕ) (v : ℕ) → Contains variables v → is_in variables v ≡ true
is_in-contains variables v (k, p, e) = list_any-from_Any (λ x. eqb x v) variables (k, v, p, e, eq-eqb v v refl)

pub contains_in : (variables : List ℕ) (v : ℕ) → is_in variables v ≡ true → Contains variables v
contains_in variables v t =
    let any = Any-from_list_any (λ x. eqb x v) variables t in
    (any.0, any.2, subst (λ (w : ℕ). get_or variables any.0 w ≡ w) (eqb-true any.1 v any.4) any.3)
