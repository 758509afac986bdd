use Rattle.std.proofs.Common.{◌≡◌, ◌∙◌, ap, Some, List, [], ◌∷◌}
use Rattle.cq_terms.specs.declared.query.QAtom.{QAtom}
use Rattle.cq_terms.specs.Query.{Query}
use Rattle.cq_meaning.specs.NormalForm.{normal}
use Rattle.cq_steps.proofs.axiom_step.negative_query.Goals as goal

two : (q : Query) (x y x' y' : QAtom) → x ≡ x' → y ≡ y' → q ≡ normal (record { head = []; body = x ∷ y ∷ [] })
    → Some q ≡ Some (normal (record { head = []; body = x' ∷ y' ∷ [] }))
two q x y x' y' e f h =
    let atoms : x ∷ y ∷ [] ≡ x' ∷ y' ∷ [] = rw (e, f) in
    ap Some (h ∙ ap (λ (body : List QAtom). normal (record { head = []; body = body })) atoms)

pub returns-in_ok-query-in-DisjointRole : goal.returns-in_ok-query-in-DisjointRole
returns-in_ok-query-in-DisjointRole c =
    record { exact = rw c.in-DisjointRole.is (two _ _ _ _ _ c.role_at.ensures c.role_at-in-DisjointRole.ensures c.in_ok-query-in-DisjointRole.ensures) }
