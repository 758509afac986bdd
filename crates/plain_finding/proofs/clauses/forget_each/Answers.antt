use Rattle.plain_finding.proofs.InsideLemmas.{forgot_none, forgot_more, forgot_live, forgot_all}
use Rattle.plain_finding.proofs.clauses.forget_each.Goals as goal

pub loop-number-init : goal.loop-number-init
loop-number-init c = forgot_none c.args.checker.now c.args.numbers.now

pub forget-requires : goal.forget-requires
forget-requires c = record {
  live = forgot_live c.args.checker.now c.loop-number.checker c.args.numbers.now c.loop-number.number-index c.loop-number-test.true c.requires.ascending
      c.requires.live c.loop-number.invariant;
}

pub loop-number-preserved : goal.loop-number-preserved
loop-number-preserved c = forgot_more c.args.checker.now c.loop-number.checker c.forget.new.self c.args.numbers.now c.loop-number.number-index
    c.loop-number-test.true c.loop-number.invariant c.forget.ensures.exact

pub returns : goal.returns
returns c = record {
  exact = forgot_all c.args.checker.now c.loop-number.checker c.args.numbers.now c.loop-number.number-index c.loop-number-test.false
      c.loop-number.invariant;
}
