-- `role` and two roles, or else two basic concepts.
use Rattle.axiom_reader.specs.Parts.{axiom_at}
use Rattle.axiom_reader.proofs.axiom.parsed.Goals as goal

pub returns-then-of_roles : goal.returns-then-of_roles
unfolding axiom_at
returns-then-of_roles c = record { exact = rw (← c.skip_word-of_roles.ensures.exact, c.if-of_roles.true) c.roles.ensures.exact }

pub returns-else-of_roles : goal.returns-else-of_roles
unfolding axiom_at
returns-else-of_roles c = record { exact = rw (← c.skip_word-of_roles.ensures.exact, c.if-of_roles.false) c.concepts.ensures.exact }
