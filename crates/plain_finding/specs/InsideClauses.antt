-- What the fields of the live clauses show, and what they keep true of them.
use Rattle.std.specs.Prelude.{◌≡◌}
use Rattle.plain_finding.specs.declared.clauses.Clauses.TheInside.{Inside}
use Rattle.plain_finding.specs.Kept.{Kept, IsNumbered}

-- the checker is seen as its clauses
abbrev pub shown : Inside → Kept
shown c = record {
  variables = c.variables;
  live = c.checker.live;
  next = c.next;
  open_numbers = c.open.items;
  learned_numbers = c.learned.items;
}

-- the counts are the checker's, and its numbers are in order
pub record IsKept (c : Inside) : Type 0 where
  pub same_variables : c.checker.variables ≡ c.variables
  pub same_next : c.checker.next ≡ c.next
  pub numbered : IsNumbered (shown c)
