-- What tests of lists tell.
use Rattle.std.proofs.Common.{◌≡◌, ℕ, List, Contains, Bool, Decides, eqb}
use Rattle.std.proofs.lemmas.Bool.Decides.{Decides-eqb}
use Rattle.std.specs.List.{IsAnyAnswer}
use Rattle.std.proofs.lemmas.List.Elements.{contains_decides, Decides-contains}

-- what `contains` answers
pub contains_tells : (xs : List ℕ) (x : ℕ) (r : Bool) → IsAnyAnswer (λ y t. eqb y x ≡ t) xs r → Decides r (Contains xs x)
contains_tells xs x r h = Decides-contains xs x r (contains_decides eqb Decides-eqb xs x r h)
