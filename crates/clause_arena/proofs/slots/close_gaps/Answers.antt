use Rattle.std.proofs.Common.{ap, ◌∙◌, rules}
use Rattle.std.proofs.lemmas.Fn.{filter_same}
use Rattle.clause_arena.specs.Slots.{contents}
use Rattle.clause_arena.proofs.Contents.{has_literals, contents-filter}
use Rattle.clause_arena.proofs.slots.close_gaps.Goals as goal

pub returns-clause-exact : goal.returns-clause-exact
returns-clause-exact c =
    ap contents (filter_same _ has_literals _ (λ x b f' k. search rules) _ _ c.retain.ensures.filtered) ∙ contents-filter c.args.slots.now.items
