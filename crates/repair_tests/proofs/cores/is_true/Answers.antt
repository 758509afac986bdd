use Rattle.std.proofs.Common.{◌∙◌, inl, inr, ap, sym, not, true≢false}
use Rattle.std.proofs.lemmas.Bool.{cases_Bool, eq-eqb, ne_eqb}
use Rattle.clause_meaning.specs.Literals.{variable_of, is_present}
use Rattle.repair_tests.proofs.cores.is_true.Goals as goal

pub returns-then-literal-eq0 : goal.returns-then-literal-eq0
unfolding variable_of is_present
returns-then-literal-eq0 c t = sym c.contains.ensures.value ∙ t ∙ sym (eq-eqb _ 0 c.if-literal-eq0.true)

pub returns-else-literal-eq0 : goal.returns-else-literal-eq0
unfolding variable_of is_present
returns-else-literal-eq0 c t = elim (cases_Bool c.contains-else-literal-eq0.result) [
  | inl e ↦ absurd (true≢false (sym t ∙ ap not e))
  | inr f ↦ sym c.contains-else-literal-eq0.ensures.value ∙ f ∙ sym (ne_eqb _ 0 c.if-literal-eq0.false)
]
