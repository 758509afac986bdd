-- The left side keeps its meaning while the right side is put.
use Rattle.axiom_reader.proofs.TextLemmas.{IsRoleOf-keeps, IsBasicOf-keeps}
use Rattle.axiom_reader.proofs.put.put_axiom.Goals as goal

pub returns-in_ok-right-in-Concepts-clause-exact : goal.returns-in_ok-right-in-Concepts-clause-exact
returns-in_ok-right-in-Concepts-clause-exact c =
    let kept = c.put_basic-in-Concepts.ensures.kept in
    rw c.in-Concepts.is (
      c.in_ok-left-in-Concepts.left,
      c.in_ok-right-in-Concepts.right,
      IsBasicOf-keeps _ _ _ _ kept c.in_ok-left-in-Concepts.ensures.exact,
      c.in_ok-right-in-Concepts.ensures.exact,
      c.concept_axiom.ensures.exact,
    )

pub returns-in_ok-right-in-Roles-clause-exact : goal.returns-in_ok-right-in-Roles-clause-exact
returns-in_ok-right-in-Roles-clause-exact c =
    let kept = c.put_role-in-Roles.ensures.kept in
    rw c.in-Roles.is (
      c.in_ok-left-in-Roles.left,
      c.in_ok-right-in-Roles.right,
      IsRoleOf-keeps _ _ _ _ kept c.in_ok-left-in-Roles.ensures.exact,
      c.in_ok-right-in-Roles.ensures.exact,
      c.role_axiom.ensures.exact,
    )
