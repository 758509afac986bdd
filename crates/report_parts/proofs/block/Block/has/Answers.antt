use Rattle.std.proofs.Common.{◌∙◌, sym, subst, Contains}
use Rattle.report_parts.proofs.block.Block.has.Goals as goal

pub returns : goal.returns
returns c =
    let e = c.deref.ensures.value ∙ c.in_ok-code.ensures in
    record {
      exact = rw (← c.self.view_is) (
        (λ t. (c.self.invariant c.args.query.now).0 (subst (Contains c.self.inside.codes) e (c.has.ensures.exact.0 t))),
        (λ m. c.has.ensures.exact.1 (subst (Contains c.self.inside.codes) (sym e) ((c.self.invariant c.args.query.now).1 m))),
      );
    }
