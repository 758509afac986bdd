use Rattle.std.proofs.Common.{ℕ, ◌<◌, false, length, get_or, set, get_or-set_same, sym, ap, ◌∙◌, arith}
use Rattle.cdcl_trail.specs.Choices.{Choices}
use Rattle.cdcl_trail.proofs.branching.Branching.remember.Goals as goal

pub returns-clause-held : goal.returns-clause-held
returns-clause-held c =
    let lasts = c.self.inside.lasts.items in
    let v = c.variable_of.result in
    let present = c.is_present.result in
    let variables = ap (λ (b : Choices). b.variables) c.self.view_is in
    let below : v < length lasts = omega (arith, c.requires, c.variable_of.ensures, c.self.invariant.lasts, variables) in
    ap (λ (n : ℕ). get_or (set lasts v present) n false) (sym c.variable_of.ensures) ∙ (get_or-set_same lasts v present false below ∙ c.is_present.ensures)
