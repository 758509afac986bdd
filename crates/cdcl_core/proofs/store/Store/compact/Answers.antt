use Rattle.std.proofs.Common.{sym, subst, ◌∙◌}
use Rattle.cdcl_core.specs.Store.{StoreState}
use Rattle.cdcl_core.specs.Shown.{parts_of}
use Rattle.cdcl_core.specs.Changes.{Becomes, live_in}
use Rattle.cdcl_core.proofs.StoreKept.{IsKept-renamed, Becomes-renamed}
use Rattle.cdcl_core.proofs.store.Store.compact.Goals as goal

pub invariant_of-self : goal.invariant_of-self
invariant_of-self c =
    let renames = c.compact.ensures.exact in
    record {
      kept = IsKept-renamed renames.0 (parts_of c.self.inside) c.compact.new.self c.self.invariant.kept renames.1;
      marks = c.self.invariant.marks ∙ sym renames.1.variables;
    }

pub returns : goal.returns
returns c =
    let renames = c.compact.ensures.exact in
    let new : StoreState = record (parts_of c.self.inside) { arena = c.compact.new.self } in
    record {
      exact = subst (λ (p : StoreState). Becomes p new (live_in p) p.next) c.self.view_is
          (Becomes-renamed renames.0 (parts_of c.self.inside) c.compact.new.self renames.1);
    }
