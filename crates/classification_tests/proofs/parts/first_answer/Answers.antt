use Rattle.std.proofs.Common.{◌<◌, length, sym, arith}
use Rattle.std.proofs.lemmas.Bool.Decides.{nat_tests}
use Rattle.classification_tests.proofs.PreparedInputs.{may_open_for, may_answer_first}
use Rattle.classification_tests.proofs.parts.first_answer.Goals as goal

pub new-requires : goal.new-requires
new-requires c = record {
  may_open = rw (c.facts-facts.ensures.exact, c.as_slice-candidates.ensures.value)
      (may_open_for c.args.ready.now.told.kb c.args.ready.now.told.query c.args.plan.now c.args.ready.now.prepared c.args.ready.now.told.vocab
      c.requires.named c.requires.budget c.requires.prepared);
}

pub answer-requires-clause-may_answer : goal.answer-requires-clause-may_answer
answer-requires-clause-may_answer c =
    let value = c.as_slice-candidates.ensures.value in
    let some : 0 < length c.as_slice-candidates.result.now = grind (arith, nat_tests) in
    may_answer_first c.args.ready.now.told.kb c.args.ready.now.told.query c.args.plan.now c.args.ready.now.prepared c.args.ready.now.told.vocab
    c.in_ok-desk.desk c.index-candidates-0.result c.requires.named c.requires.budget c.body-body.ensures.safe c.requires.prepared
    (rw value at c.in_ok-desk.ensures.exact) (rw value at some) (rw value at (sym c.index-candidates-0.is))
