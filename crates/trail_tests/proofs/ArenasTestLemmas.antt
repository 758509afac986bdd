-- The variables of the clauses in the tests.
use Rattle.std.proofs.Common.{[], ◌∷◌, arith}
use Rattle.clause_meaning.specs.Literals.{variable_of, HaveDistinctVariables}
use Rattle.clause_meaning.proofs.FewLiterals as few

pub distinct_two : HaveDistinctVariables (1 ∷ 2 ∷ [])
unfolding variable_of
distinct_two = few.distinct_two 1 2 (λ e. omega arith)

pub distinct_three : HaveDistinctVariables (0 ∷ 3 ∷ 5 ∷ [])
unfolding variable_of
distinct_three = few.distinct_three 0 3 5 (λ e. omega arith) (λ e. omega arith) (λ e. omega arith)
