use Rattle.std.proofs.Common.{ℕ, ◌<◌, ◌+◌, length, get_or, get_or-set_same, ap, ◌∙◌, arith}
use Rattle.std.proofs.lemmas.Grind.{get_or_default_zero}
use Rattle.cdcl_trail.specs.Choices.{Choices}
use Rattle.cdcl_trail.proofs.branching.Branching.occur.Goals as goal

pub returns-clause-raised : goal.returns-clause-raised
returns-clause-raised c =
    let counts = c.self.inside.counts.items in
    let v = c.args.variable in
    let read = c.index_mut.result.now in
    let variables = ap (λ (b : Choices). b.variables) c.self.view_is in
    let below : v < length counts = omega (arith, c.requires.in_range, c.self.invariant.counts, variables) in
    get_or-set_same counts v (read + 1) 0 below
    ∙ ap (λ (n : ℕ). n + 1) (c.index_mut.ensures.value ∙ (get_or_default_zero counts v read below ∙ ap (λ (b : Choices). get_or b.counts v 0) c.self.view_is))
