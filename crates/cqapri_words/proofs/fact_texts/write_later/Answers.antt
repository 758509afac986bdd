use Rattle.std.proofs.Common.{◌<◌, ◌∙◌, ap, length, get_or, arith, rules, slice_get}
use Rattle.cq_io.specs.Writing.{appended}
use Rattle.cqapri_words.specs.Cycles.{later_fact}
use Rattle.cqapri_words.proofs.CycleLemmas.{later_fact-at}
use Rattle.cqapri_words.proofs.PieceLemmas.{OnErr-of, part_as, written_more, written_part}
use Rattle.cqapri_words.proofs.fact_texts.write_later.Goals as goal

pub returns-in_err-write_fact-clause-part : goal.returns-in_err-write_fact-clause-part
returns-in_err-write_fact-clause-part g c =
    let l : c.loop-number.number-index < length c.args.numbers.now = omega arith in
    let inside : get_or c.args.numbers.now c.loop-number.number-index 0 < length c.args.facts.now = search rules in
    let w = part_as _ _ (later_fact-at c.args.vocab.now c.args.facts.now _ _ inside) c.in_err-write_fact.ensures.part in
    OnErr-of c.from_residual.result
    (written_part (λ number. later_fact c.args.vocab.now (slice_get c.args.facts.now number)) c.args.numbers.now c.loop-number.number-index 0 l _ _ _
    c.loop-number.invariant.0 w.0 w.1)

pub loop-number-preserved : goal.loop-number-preserved
loop-number-preserved g c =
    let l : c.loop-number.number-index < length c.args.numbers.now = omega arith in
    let inside : get_or c.args.numbers.now c.loop-number.number-index 0 < length c.args.facts.now = search rules in (
      written_more (λ number. later_fact c.args.vocab.now (slice_get c.args.facts.now number)) c.args.numbers.now c.loop-number.number-index 0 l _ _ _
          c.loop-number.invariant.0
          (c.in_ok-write_fact.ensures.exact
          ∙ ap (appended (g.S.Sink.written c.loop-number.sink)) (later_fact-at c.args.vocab.now c.args.facts.now _ _ inside)),
      c.in_ok-write_fact.ensures.fault ∙ c.loop-number.invariant.1,
    )
