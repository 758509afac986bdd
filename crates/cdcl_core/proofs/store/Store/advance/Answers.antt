use Rattle.cdcl_core.specs.Store.{StoreState}
use Rattle.cdcl_core.specs.Shown.{parts_of}
use Rattle.cdcl_core.proofs.Bare.{stops_shown}
use Rattle.cdcl_core.proofs.store.Store.advance.Goals as goal

pub returns-clause-stops : goal.returns-clause-stops
returns-clause-stops c =
    let new : StoreState = record (parts_of c.self.inside) { trail = c.advance.new.trail } in
    stops_shown c.args.assume.now new c.advance.result c.self.invariant.kept.parallel c.advance.ensures.stops
