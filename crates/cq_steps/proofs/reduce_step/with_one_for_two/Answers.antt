use Rattle.std.proofs.Common.{◌∙◌, slice_set, ap}
use Rattle.cq_steps.proofs.Without.{without-remove}
use Rattle.cq_steps.proofs.reduce_step.with_one_for_two.Goals as goal

pub returns : goal.returns
returns c = ap (λ xs. slice_set xs c.args.keep c.args.atom) (c.remove.ensures.items ∙ without-remove c.args.atoms.items c.args.drop)
