use Rattle.std.proofs.Common.{◌<◌, length, arith}
use Rattle.conflict_finder.proofs.Noting.{more_noted, added_shown}
use Rattle.conflict_finder.proofs.scan.scan_query.Goals as goal

pub returns-then-len-pass-clause-many : goal.returns-then-len-pass-clause-many
returns-then-len-pass-clause-many c = λ e.
    let adds = added_shown _ c.in_ok-keys.keys.items c.in_ok-keys.ensures.exact c.args.source c.args.shown.now.entries c.note_all.new.shown.entries
    (rw c.deref.ensures.value at c.in_ok-note_all.ensures.adds) in
    let long : c.args.pass.now.limit < length c.note_all.new.shown.entries = omega (arith, c.if-len-pass.true, c.len.ensures.len) in
    more_noted c.args.pass.now.index.now c.args.query.now c.args.pass.now.sought c.args.pass.now.numbers.now c.args.source c.args.shown.now.entries
    c.note_all.new.shown.entries adds
    c.len.ensures.ordered c.args.pass.now.limit long

pub returns-clause-adds : goal.returns-clause-adds
returns-clause-adds c =
    added_shown _ c.in_ok-keys.keys.items c.in_ok-keys.ensures.exact c.args.source c.args.shown.now.entries c.note_all.new.shown.entries
    (rw c.deref.ensures.value at c.in_ok-note_all.ensures.adds)
