use Rattle.std.proofs.Common.{[], None, false, length, take, get_or, ap, arith, length-append}
use Rattle.std.proofs.lemmas.List.{length-take-le}
use Rattle.cdcl_core.specs.declared.labels.Label.{Label}
use Rattle.cdcl_core.specs.State.{put_number}
use Rattle.cdcl_core.specs.Labels.{numbers_on}
use Rattle.cdcl_core.proofs.Labelling.{numbers_on_more, length-numbers_on, length-put_number}
use Rattle.cdcl_core.proofs.store.learned_count.Goals as goal

pub overflow_add-count : goal.overflow_add-count
overflow_add-count c =
    let labels = c.args.labels.now in
    let i = c.loop-label.label-index in
    let none : Label = record { number = None; goes = false } in
    let few = length-numbers_on (take i labels) in
    let short = length-take-le i labels (omega (arith, c.loop-label-test.true)) in
    let one = length-put_number (get_or labels i none).number [] in
    omega (arith, few, short, one, c.loop-label.invariant, c.count-count.ensures, c.loop-label-test.true)

pub loop-label-preserved : goal.loop-label-preserved
loop-label-preserved c =
    let labels = c.args.labels.now in
    let i = c.loop-label.label-index in
    let none : Label = record { number = None; goes = false } in
    let more = ap length (numbers_on_more labels i none c.loop-label-test.true) in
    let joined = length-append (numbers_on (take i labels)) (put_number (get_or labels i none).number []) in
    omega (arith, more, joined, c.loop-label.invariant, c.count-count.ensures)
