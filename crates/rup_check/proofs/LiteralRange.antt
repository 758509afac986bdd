-- Literals of variables below a bound.
use Rattle.std.proofs.Common.{◌≡◌, ℕ, ◌*◌, ◌<◌, List, get_or, All, Contains, arith, subst, sym}
use Rattle.std.proofs.lemmas.List.Elements.{All-contains}
use Rattle.clause_meaning.specs.Literals.{AreBelow, opposite_of, variable_of}
use Rattle.clause_meaning.proofs.LiteralLaws.{variable_of-opposite_of, literal_below}

pub variable_below : (variables l : ℕ) → l < 2 * variables → variable_of l < variables
unfolding variable_of
variable_below variables l h = omega arith

pub opposite_in_range : (variables l : ℕ) → variable_of l < variables → variable_of (opposite_of l) < variables
opposite_in_range variables l h = subst (λ (v : ℕ). v < variables) (sym (variable_of-opposite_of l)) h

pub member_in_range : (variables : ℕ) (clause : List ℕ) (l : ℕ) → AreBelow variables clause → Contains clause l → variable_of l < variables
member_in_range variables clause l in_range member = All-contains (λ k. variable_of k < variables) clause l in_range member

-- literals in range have lists
pub AreBelow-within : (variables n : ℕ) (clause : List ℕ) → n ≡ 2 * variables → AreBelow variables clause → All (λ l. l < n) clause
AreBelow-within variables n clause e in_range k d h =
    subst (λ (m : ℕ). get_or clause k d < m) (sym e) (literal_below variables (get_or clause k d) (in_range k d h))
