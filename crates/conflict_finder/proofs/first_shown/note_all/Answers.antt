use Rattle.conflict_finder.proofs.Turns.{item_at, noted_none, noted_more, noted_all}
use Rattle.conflict_finder.proofs.first_shown.note_all.Goals as goal

pub loop-key-init : goal.loop-key-init
loop-key-init c = noted_none c.args.keys.now c.args.source c.args.shown.now.entries

pub loop-key-preserved : goal.loop-key-preserved
loop-key-preserved c =
    noted_more c.args.keys.now c.args.source c.args.shown.now.entries c.loop-key.key-index _
    (item_at c.args.keys.now c.loop-key.key-index _ c.loop-key-test.true)
    c.loop-key.shown.entries c.note.new.shown.entries c.loop-key.invariant c.in_ok-note.ensures.adds

pub returns : goal.returns
returns c = record {
  adds = noted_all c.args.keys.now c.args.source c.args.shown.now.entries c.loop-key.key-index c.loop-key-test.false
      c.loop-key.shown.entries c.loop-key.invariant;
}
