-- Laws of literals.
use Rattle.std.proofs.Common.{◌≡◌, ◌≢◌, ◌<◌, ◌*◌, ℕ, not, ◌⊎◌, arith}
use Rattle.clause_meaning.specs.Literals.{opposite_of, variable_of, is_present}

pub opposite_of-opposite_of : (l : ℕ) → opposite_of (opposite_of l) ≡ l
unfolding opposite_of
opposite_of-opposite_of l = omega arith

pub opposite_of-ne : (l : ℕ) → opposite_of l ≢ l
unfolding opposite_of
opposite_of-ne l = λ e. omega arith

pub variable_of-opposite_of : (l : ℕ) → variable_of (opposite_of l) ≡ variable_of l
unfolding opposite_of variable_of
variable_of-opposite_of l = omega arith

pub is_present-opposite_of : (l : ℕ) → is_present (opposite_of l) ≡ not (is_present l)
unfolding opposite_of is_present
is_present-opposite_of l = grind arith

-- two literals of one variable are the same or opposite
pub same_variable : (k l : ℕ) → variable_of k ≡ variable_of l → (k ≡ l) ⊎ (k ≡ opposite_of l)
unfolding opposite_of variable_of
same_variable k l e = grind arith

-- a literal of a variable below a bound is below twice the bound
pub literal_below : (variables l : ℕ) → variable_of l < variables → l < 2 * variables
unfolding variable_of
literal_below variables l h = omega arith
