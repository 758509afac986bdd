use Rattle.std.proofs.Common.{ℕ, List, ◌+◌, sym, subst, arith}
use Rattle.answer_evidence.specs.Ranges.{IsRange}
use Rattle.answer_evidence.proofs.RangeLemmas.{IsRange-more}
use Rattle.answer_evidence.proofs.ranges.numbers_from.Goals as goal

pub loop-number-preserved : goal.loop-number-preserved
loop-number-preserved c =
    let low = c.loop-number.invariant.0 in
    let more = c.loop-number-test.true in (
      omega (arith, low),
      omega (arith, more),
      subst (λ (xs : List ℕ). IsRange c.args.first (c.loop-number.number + 1) xs) (sym c.in_ok-push.ensures.exact)
          (IsRange-more c.args.first c.loop-number.number c.loop-number.numbers c.loop-number.invariant.2 low),
    )
