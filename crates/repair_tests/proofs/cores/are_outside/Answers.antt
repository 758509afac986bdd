use Rattle.std.proofs.Common.{All, Contains, get_or}
use Rattle.std.proofs.lemmas.List.{take_all}
use Rattle.std.proofs.lemmas.List.Elements.{All-more}
use Rattle.priority_graph.proofs.SplitLemmas.{has_true}
use Rattle.repair_tests.proofs.cores.are_outside.Goals as goal

pub loop-number-preserved : goal.loop-number-preserved
loop-number-preserved c =
    let k = c.loop-number.number-index in
    All-more (λ i. ¬ Contains c.args.list.now i) c.args.numbers.now k 0 c.loop-number-test.true c.loop-number.invariant
    (λ m. (let there = has_true c.args.list.now (get_or c.args.numbers.now k 0) m in cc (there, c.contains.ensures.value, c.if-contains.false)))

pub returns : goal.returns
returns c = λ _. rw (take_all c.loop-number.number-index c.args.numbers.now c.loop-number-test.false) at c.loop-number.invariant
