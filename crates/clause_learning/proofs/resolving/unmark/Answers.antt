use Rattle.std.proofs.Common.{◌<◌, length, get_or, false, inl, inr, sym, ◌∙◌, arith}
use Rattle.std.proofs.lemmas.List.{length-set}
use Rattle.clause_meaning.proofs.Members.{Contains-take_all, Contains-take_more_cases}
use Rattle.clause_meaning.proofs.MarkLemmas.{HasMark-gone_cases}
use Rattle.clause_learning.proofs.resolving.unmark.Goals as goal

pub loop-literal-preserved : goal.loop-literal-preserved
loop-literal-preserved c =
    let marks = c.loop-literal.marks in
    let i = c.loop-literal.literal-index in
    let l = get_or c.args.touched.now i 0 in
    let before = c.loop-literal.invariant in
    let within : l < length c.args.marks.now = c.requires.within i 0 c.loop-literal-test.true in
    let below : l < length marks = omega (arith, within, before.same_length) in
    record {
      same_length = length-set marks l false ∙ before.same_length;
      stays = λ k m. before.stays k (HasMark-gone_cases marks l k below m).1;
      gone = λ k m at. (let was = HasMark-gone_cases marks l k below m in
          elim (Contains-take_more_cases c.args.touched.now i 0 k c.loop-literal-test.true at) [ inl t ↦ before.gone k was.1 t | inr e ↦ was.0 (sym e) ]);
    }

pub returns-clause-gone : goal.returns-clause-gone
returns-clause-gone c = λ l m at. c.loop-literal.invariant.gone l m
    (Contains-take_all c.args.touched.now c.loop-literal.literal-index l c.loop-literal-test.false at)
