use Rattle.std.proofs.Common.{arith}
use Rattle.cdcl_core.proofs.Tallies.{occurrences-le}
use Rattle.cdcl_core.proofs.store.put.Goals as goal

pub raise-requires-clause-room : goal.raise-requires-clause-room
raise-requires-clause-room c v =
    let few = occurrences-le v c.args.arena.now.variables c.args.arena.now.live c.requires.all_proper in
    let counted = c.requires.counted v in
    omega (arith, few, counted, c.requires.parallel, c.requires.room, c.args.labels.now.small)
