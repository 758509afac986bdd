use Rattle.std.proofs.Common.{Some, None, ap, ◌∙◌}
use Rattle.cdcl_core.specs.Store.{StoreState}
use Rattle.cdcl_core.proofs.Values.{value_on, value_on-is}
use Rattle.cdcl_core.proofs.store.Store.value.Goals as goal

pub returns-in-Some : goal.returns-in-Some
returns-in-Some c =
    value_on-is c.self.inside.trail.entries c.literal_of.result c.args.variable (Some c.in-Some.value) c.literals-distinct.ensures.distinct
    c.literal_of.ensures.variable c.literal_of.ensures.present
    c.in-Some.ensures.exact
    ∙ ap (λ (p : StoreState). value_on p.trail.entries c.args.variable) c.self.view_is

pub returns-in-None : goal.returns-in-None
returns-in-None c =
    value_on-is c.self.inside.trail.entries c.literal_of.result c.args.variable None c.literals-distinct.ensures.distinct c.literal_of.ensures.variable
    c.literal_of.ensures.present
    c.in-None.ensures.exact
    ∙ ap (λ (p : StoreState). value_on p.trail.entries c.args.variable) c.self.view_is
