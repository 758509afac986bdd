use Rattle.std.proofs.Common.{get_or, refl}
use Rattle.std.proofs.lemmas.List.Elements.{Contains-get_or}
use Rattle.repair_tests.proofs.cores.is_satisfied.Goals as goal

pub returns-then-is_true : goal.returns-then-is_true
returns-then-is_true c = λ _. (
  get_or c.args.clause.now c.loop-literal.literal-index 0,
  Contains-get_or c.args.clause.now c.loop-literal.literal-index 0 c.loop-literal-test.true,
  c.if-is_true.ensures refl,
)
