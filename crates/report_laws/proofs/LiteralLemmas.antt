-- Literals and their variables.
use Rattle.std.proofs.Common.{◌≡◌, ℕ, ◌%◌, ◌⊎◌, inl, inr, [], ◌∷◌, arith}
use Rattle.std.proofs.lemmas.Bool.{cases_lt}
use Rattle.clause_meaning.specs.Literals.{opposite_of, variable_of}
use Rattle.repair_clauses.specs.BaseClauses.{present, absent}

-- a literal says that its variable is present, or absent
pub literal_cases : (l : ℕ) → (l ≡ present (variable_of l)) ⊎ (l ≡ absent (variable_of l))
unfolding variable_of
literal_cases l = elim (cases_lt (l % 2) 1) [ inl e ↦ inl (omega arith) | inr e ↦ inr (omega arith) ]

pub opposite_of-present : (i : ℕ) → opposite_of (present i) ≡ absent i
unfolding opposite_of
opposite_of-present i = omega arith

-- the absent literal tells its variable
pub absent_same : (i j : ℕ) → absent i ∷ [] ≡ absent j ∷ [] → i ≡ j
absent_same i j e = let h : absent i ≡ absent j = cc in omega arith
