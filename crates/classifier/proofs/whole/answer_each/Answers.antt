use Rattle.std.proofs.Common.{ℕ, List, length, take, ◌+◌, ◌≤◌, refl, sym, subst, ap, ◌∙◌, arith, rules}
use Rattle.std.proofs.lemmas.List.{take_all}
use Rattle.cause_finder.specs.declared.candidate.Candidate.{Candidate}
use Rattle.classifier.specs.declared.summary.Summary.{Summary}
use Rattle.classifier.specs.WholeReports.{AreAtMostAnswers, IsSummaryOver}
use Rattle.classifier.proofs.WholeCountLemmas.{at_most_none, at_most_more}
use Rattle.classifier.proofs.WholeStepLemmas.{AnswersUpTo, same_desk, same_on, may_answer_next, named_next, said_none, said_next}
use Rattle.classifier.proofs.WholeStepLemmas.{up_to_none, up_to_next, up_to_fault, up_to_all}
use Rattle.classifier.proofs.whole.answer_each.Goals as goal

pub loop-number-init : goal.loop-number-init
loop-number-init g c = record {
  whole = c.requires.whole;
  same = same_desk c.args.desk.now;
  answers = c.requires.may_answer.none_yet;
  most = at_most_none;
  count = refl;
  said = said_none c.args.desk.now.conflicts c.args.desk.now.better c.args.desk.now.plan;
  right = up_to_none c.args.desk.now c.args.candidates.now c.args.individuals.now (g.L.Report.lines c.args.report.now);
  none_torn = c.requires.none_torn;
  faults = search rules;
  target = search rules;
}

pub answer_next-requires-clause-may_answer : goal.answer_next-requires-clause-may_answer
answer_next-requires-clause-may_answer g c =
    may_answer_next c.args.desk.now c.loop-number.desk c.args.individuals.now c.args.candidates.now c.loop-number.number c.index-candidates-number.result
    c.requires.may_answer c.loop-number.invariant.same c.loop-number.invariant.answers c.loop-number-test.true (sym c.index-candidates-number.is)

pub answer_next-requires-clause-named : goal.answer_next-requires-clause-named
answer_next-requires-clause-named g c =
    named_next c.args.desk.now c.args.individuals.now c.args.candidates.now c.loop-number.number c.index-candidates-number.result c.requires.may_answer
    c.loop-number-test.true (sym c.index-candidates-number.is)

pub count-requires-clause-few : goal.count-requires-clause-few
count-requires-clause-few g c =
    let enough = c.requires.may_answer.enough in
    let few = c.requires.may_answer.few in
    omega (arith, enough, few, c.loop-number.invariant.count, c.loop-number-test.true)

pub loop-number-preserved : goal.loop-number-preserved
loop-number-preserved g c =
    let old = c.args.desk.now in
    let mid = c.loop-number.desk in
    let new = c.answer_next.new.desk in
    let i = c.loop-number.number in
    let candidates = c.args.candidates.now in
    let texts = c.args.individuals.now in
    let item = c.index-candidates-number.result in
    let inside = c.loop-number-test.true in
    let at = sym c.index-candidates-number.is in
    let w = c.loop-number.invariant in
    let a = c.in_ok-verdicts.ensures in
    let same = same_on old mid new w.same c.answer_next.ensures.same_desk in
    let v = c.in_ok-verdicts.verdicts in
    let s = c.loop-number.summary in
    let lines = g.L.Report.lines in
    let counted = sym c.count.ensures.exact in
    record {
      whole = a.whole;
      same = same;
      answers = a.counted ∙ ap (λ (n : ℕ). n + 1) w.answers;
      most = subst AreAtMostAnswers counted (at_most_more s v w.most);
      count = ap (λ (x : Summary). x.answers) c.count.ensures.exact ∙ ap (λ (n : ℕ). n + 1) w.count;
      said = subst (IsSummaryOver old.conflicts old.better old.plan (take (i + 1) candidates)) counted
          (said_next old mid candidates i item s v w.same inside at w.said a.truth a.over_all a.by_budget);
      right = subst (AnswersUpTo old new candidates texts (i + 1) (lines c.args.report.now) (lines c.answer_next.new.report)) counted
          (up_to_next old mid new candidates texts i item s v (lines c.args.report.now) (lines c.loop-number.report)
          (lines c.answer_next.new.report) (g.L.Report.torn c.answer_next.new.report) inside at w.right a.right);
      none_torn = a.none_torn;
      faults = a.fault ∙ w.faults;
      target = c.answer_next.ensures.same_target ∙ w.target;
    }

pub returns-in_err-verdicts-clause-right : goal.returns-in_err-verdicts-clause-right
returns-in_err-verdicts-clause-right g c =
    let old = c.args.desk.now in
    let mid = c.loop-number.desk in
    let new = c.answer_next.new.desk in
    let lines = g.L.Report.lines in
    up_to_fault _ old mid new new c.args.candidates.now c.args.individuals.now c.loop-number.number c.index-candidates-number.result c.loop-number.summary
    c.in_err-verdicts.field-0.0 (lines c.args.report.now) (lines c.loop-number.report) (lines c.answer_next.new.report)
    (g.L.Report.torn c.answer_next.new.report) c.loop-number-test.true (sym c.index-candidates-number.is) c.loop-number.invariant.right
    c.in_err-verdicts.ensures.right c.from_residual.result c.from_residual.ensures.1

pub returns-in_err-verdicts-clause-same_desk : goal.returns-in_err-verdicts-clause-same_desk
returns-in_err-verdicts-clause-same_desk g c =
    same_on c.args.desk.now c.loop-number.desk c.answer_next.new.desk c.loop-number.invariant.same c.answer_next.ensures.same_desk

pub returns-clause-said : goal.returns-clause-said
returns-clause-said g c =
    let old = c.args.desk.now in
    let all : length c.args.candidates.now ≤ c.loop-number.number = c.loop-number-test.false in
    subst (λ (cs : List Candidate). IsSummaryOver old.conflicts old.better old.plan cs c.loop-number.summary)
    (take_all c.loop-number.number c.args.candidates.now all) c.loop-number.invariant.said

pub returns-clause-right : goal.returns-clause-right
returns-clause-right g c =
    let all : length c.args.candidates.now ≤ c.loop-number.number = c.loop-number-test.false in
    up_to_all c.args.desk.now c.loop-number.desk c.args.candidates.now c.args.individuals.now c.loop-number.number c.loop-number.summary
    (g.L.Report.lines c.args.report.now) (g.L.Report.lines c.loop-number.report) (g.L.Report.torn c.loop-number.report) all c.loop-number.invariant.right
