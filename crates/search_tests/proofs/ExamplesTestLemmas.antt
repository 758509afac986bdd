-- The clause, the scope and the assumption of the example.
use Rattle.std.proofs.Common.{◌≡◌, ℕ, [], ◌∷◌, sym, subst, arith, ap}
use Rattle.clause_meaning.specs.Literals.{variable_of, AreBelow, HaveDistinctVariables}
use Rattle.clause_meaning.proofs.FewLiterals as few
use Rattle.cdcl_core.specs.State.{State, AddsClause, empty_solver}
use Rattle.cdcl_core.specs.Solving.{AreAskable}
use Rattle.search_tests.proofs.SolversTestLemmas.{both_askable, fresh_more, fresh_new}

pub given_distinct : HaveDistinctVariables (0 ∷ 2 ∷ [])
unfolding variable_of
given_distinct = few.distinct_two 0 2 (λ e. omega arith)

given_small : AreBelow 2 (0 ∷ 2 ∷ [])
unfolding variable_of
given_small = few.below_two 2 0 2 (omega arith) (omega arith)

assumed_small : AreBelow 2 (1 ∷ [])
unfolding variable_of
assumed_small = few.below_one 2 1 (omega arith)

pub given_below : (s : State) → s ≡ empty_solver 2 → AreBelow s.variables (0 ∷ 2 ∷ [])
given_below s is = subst (λ (n : ℕ). AreBelow n (0 ∷ 2 ∷ [])) (sym (ap (λ (t : State). t.variables) is)) given_small

pub given_askable : (old new : State) → old ≡ empty_solver 2 → AddsClause old new (0 ∷ 2 ∷ []) → AreAskable new (0 ∷ 1 ∷ []) (1 ∷ [])
given_askable old new is adds = both_askable new (1 ∷ []) (fresh_more 2 old new (0 ∷ 2 ∷ []) (fresh_new 2 old is) given_small adds) assumed_small
