-- What the fields of the clauses show, and what they keep.
use Rattle.std.specs.Prelude.{◌≡◌, ◌*◌, ℕ, List, Option, length}
use Rattle.clause_meaning.specs.Literals.{AreBelow}
use Rattle.rup_check.specs.declared.clauses.Clauses.TheInside.{Inside}
use Rattle.rup_check.specs.Slots.{Stock, IsAt}
use Rattle.rup_check.specs.Listed.{Listed, IsListed}

-- the lists aren't seen
abbrev pub shown : Inside → Stock
shown c = record { variables = c.variables; slots = c.slots.items }

-- each live clause is of so many variables, and its number is in each list to which it belongs
pub record AreListed (variables : ℕ) (slots : List (Option (List ℕ))) (lists : Listed) : Type 0 where
  pub in_range : (n : ℕ) (c : List ℕ) → IsAt slots n c → AreBelow variables c
  pub listed : (n : ℕ) (c : List ℕ) → IsAt slots n c → IsListed lists n c

-- there is a list for each literal, and the lists are complete
pub record IsKept (c : Inside) : Type 0 where
  pub cover : length c.lists.by_literal ≡ 2 * c.variables
  pub kept : AreListed c.variables c.slots.items c.lists
