-- When the clauses of a search refute the assumptions, and when they don't.
use Rattle.std.proofs.Common.{◌≡◌, ℕ, ◌<◌, inl, inr, List, [], ◌∷◌, Contains, refl, sym, subst, ap, ◌∙◌}
use Rattle.clause_meaning.specs.Literals.{opposite_of}
use Rattle.clause_meaning.specs.Refutation.{Refutes, Reaches, IsFalseUnder}
use Rattle.clause_meaning.proofs.LiteralLaws.{variable_of-opposite_of}
use Rattle.clause_meaning.proofs.Members.{Contains-head}
use Rattle.clause_meaning.proofs.Chains.{Reaches-given, Refutes-from_clash, closed_not_refuted}
use Rattle.clause_arena.specs.State.{State as Arena, LiveIn}
use Rattle.clause_arena.specs.declared.clause_ref.ClauseRef.{ClauseRef}
use Rattle.cdcl_trail.specs.Assigned.{IsTrueOn}
use Rattle.cdcl_trail.specs.State.{State}
use Rattle.cdcl_trail.specs.Fits.{IsFalsified}
use Rattle.clause_learning.specs.Levels.{IsKnownAt}
use Rattle.clause_meaning.specs.Learning.{is_in}
use Rattle.clause_learning.specs.Searching.{Searched, IsSearching, AreAssumed}
use Rattle.clause_learning.proofs.LevelFacts.{true_known}
use Rattle.clause_learning.proofs.Reached.{named_live, clause_searched, known_reached}
use Rattle.clause_learning.proofs.Keeping.{true_in_focus}

-- where all guesses are assumed, what is true is reached from the assumptions
pub true_reached : (trail : State) (arena : Arena) (L : ℕ → Type 0) → IsSearching trail arena → AreAssumed L trail.entries trail.level
    → (l : ℕ) → IsTrueOn trail.entries l → Reaches (Searched trail arena) L l
true_reached trail arena L s assumed l on = known_reached trail arena L trail.level s assumed l (true_known trail.entries trail.level l s.searched.up_to on)

-- a clause that is false is one of the search
pub false_searched : (trail : State) (arena : Arena) (clause : List ℕ) → IsSearching trail arena → LiveIn arena clause
    → IsFalseUnder (IsTrueOn trail.entries) clause → Searched trail arena clause
false_searched trail arena clause s live refuted = by_literal clause refl
  where
    by_literal : (c : List ℕ) → clause ≡ c → Searched trail arena clause
    by_literal [] e = absurd ((s.proper clause live).some e)
    by_literal (x ∷ xs) e =
        let m : Contains clause x = subst (λ (y : List ℕ). Contains y x) (sym e) (Contains-head x xs x refl) in
        clause_searched trail arena clause x s live m (sym (ap (is_in trail.focus) (variable_of-opposite_of x))
        ∙ true_in_focus trail.focus trail.entries (opposite_of x) s.searched.in_focus (refuted x m))

-- a falsified clause then refutes them
pub falsified_refutes : (trail : State) (arena : Arena) (L : ℕ → Type 0) (reference : ClauseRef) → IsSearching trail arena
    → AreAssumed L trail.entries trail.level
    → IsFalsified trail arena reference → Refutes (Searched trail arena) L
falsified_refutes trail arena L reference s assumed (clause, named, refuted) =
    Refutes-from_clash (Searched trail arena) L
    (inl (
      clause,
      false_searched trail arena clause s (named_live arena reference.place clause named) refuted,
      λ k m. true_reached trail arena L s assumed (opposite_of k) (refuted k m),
    ))

-- an assumption that is false does
pub false_assumption_refutes : (trail : State) (arena : Arena) (L : ℕ → Type 0) (l : ℕ) → IsSearching trail arena → AreAssumed L trail.entries trail.level
    → L l → IsTrueOn trail.entries (opposite_of l) → Refutes (Searched trail arena) L
false_assumption_refutes trail arena L l s assumed given on =
    Refutes-from_clash (Searched trail arena) L (inr (
      l,
      Reaches-given (Searched trail arena) L l given,
      true_reached trail arena L s assumed (opposite_of l) on,
    ))

-- assumptions that are known at a level below the current one aren't refuted
pub known_unrefuted : (trail : State) (arena : Arena) (L : ℕ → Type 0) (level : ℕ) → IsSearching trail arena → level < trail.level
    → ((l : ℕ) → L l → IsKnownAt trail.entries level l) → Refutes (Searched trail arena) L → ⊥
known_unrefuted trail arena L level s below known r = closed_not_refuted (Searched trail arena) L (IsKnownAt trail.entries level)
    (s.searched.closed level below) known r
