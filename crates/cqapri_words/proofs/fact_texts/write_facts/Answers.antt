use Rattle.std.proofs.Common.{◌<◌, length, rules}
use Rattle.cqapri_words.specs.Cycles.{later_text}
use Rattle.cqapri_words.proofs.CycleLemmas.{facts_text-at, tail_below}
use Rattle.cqapri_words.proofs.PieceLemmas.{OnErr-of, OnErr-then, OnOk-then, part_as, part_of_more}
use Rattle.cqapri_words.proofs.fact_texts.write_facts.Goals as goal

pub returns-in_err-write_fact-clause-part : goal.returns-in_err-write_fact-clause-part
returns-in_err-write_fact-clause-part g c =
    let inside : c.in-Some.first.now < length c.args.facts.now = search rules in
    OnErr-of c.from_residual.result
    (part_as _ _ (facts_text-at c.args.vocab.now c.args.facts.now c.args.numbers.now c.in-Some.first.now c.in-Some.later.now _ c.in-Some.ensures.cases.0 inside)
    (part_of_more _ _ _ (later_text c.args.vocab.now c.args.facts.now c.in-Some.later.now) c.in_err-write_fact.ensures.part))

pub write_later-requires-clause-numbered : goal.write_later-requires-clause-numbered
write_later-requires-clause-numbered g c =
    tail_below (length c.args.facts.now) c.args.numbers.now c.in-Some.first.now c.in-Some.later.now c.in-Some.ensures.cases.0 c.requires.numbered

pub returns-clause-exact : goal.returns-clause-exact
returns-clause-exact g c =
    let inside : c.in-Some.first.now < length c.args.facts.now = search rules in
    OnOk-then c.write_later.result _ _ _ _ _ _
    (facts_text-at c.args.vocab.now c.args.facts.now c.args.numbers.now c.in-Some.first.now c.in-Some.later.now _ c.in-Some.ensures.cases.0 inside)
    c.in_ok-write_fact.ensures.exact c.write_later.ensures.exact

pub returns-clause-part : goal.returns-clause-part
returns-clause-part g c =
    let inside : c.in-Some.first.now < length c.args.facts.now = search rules in
    OnErr-then c.write_later.result _ _ _ _ _ _
    (facts_text-at c.args.vocab.now c.args.facts.now c.args.numbers.now c.in-Some.first.now c.in-Some.later.now _ c.in-Some.ensures.cases.0 inside)
    c.in_ok-write_fact.ensures.exact c.write_later.ensures.part
