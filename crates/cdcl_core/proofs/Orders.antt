-- A clause in another order.
use Rattle.std.proofs.Common.{◌≡◌, ◌≢◌, ℕ, ◌<◌, List, [], ◌∷◌, length, refl, arith}
use Rattle.std.proofs.lemmas.List.Sorted.{length_permutation, All-permutation}
use Rattle.clause_meaning.specs.Literals.{variable_of}
use Rattle.clause_learning.proofs.Permuted.{HaveDistinctVariables-permutation}
use Rattle.cdcl_core.specs.State.{AscendsAs}
use Rattle.cdcl_core.specs.Store.{IsProper}

-- a list as long as one with an item has one
pub some_permutation : (xs ys : List ℕ) → length ys ≡ length xs → xs ≢ [] → ys ≢ []
some_permutation [] ys e some = absurd (some refl)
some_permutation (x ∷ xs) [] e some = absurd (omega arith)
some_permutation (x ∷ xs) (y ∷ ys) e some = λ z. absurd (cc)

-- a proper clause is proper in ascending order
pub IsProper-ascends : (n : ℕ) (clause shown : List ℕ) → IsProper n clause → AscendsAs clause shown → IsProper n shown
IsProper-ascends n clause shown proper order = record {
  some = some_permutation clause shown (length_permutation clause shown order.permutation) proper.some;
  in_range = All-permutation (λ l. variable_of l < n) clause shown order.permutation proper.in_range;
  distinct = HaveDistinctVariables-permutation clause shown order.permutation proper.distinct;
}
