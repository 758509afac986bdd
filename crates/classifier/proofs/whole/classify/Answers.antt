use Rattle.std.proofs.Common.{◌≡◌, ℕ, List, [], length, subst}
use Rattle.std.specs.Prelude.{All}
use Rattle.std.proofs.lemmas.Result.{IfOk-weaker}
use Rattle.cq_steps.specs.declared.closure.Member.{Member}
use Rattle.cq_steps.specs.Derivation.{IsDerivation}
use Rattle.classifier.specs.declared.summary.Summary.{Summary}
use Rattle.classifier.specs.WholeLines.{opening_lines}
use Rattle.classifier.specs.WholeReports.{IsSummaryOver, CountsHolding, OpenAboveBudget, OpenOfManyCauses}
use Rattle.classifier.specs.WholeWriting.{with_lines}
use Rattle.classifier.proofs.WholeCauseLemmas.{may_open, may_answer_all, in_place, bounds_are}
use Rattle.classifier.proofs.WholeCountLemmas.{answers_counted, holding_counted, open_above, open_of_many}
use Rattle.classifier.proofs.WholeOpeningLemmas.{opening_in_turn, opening_agrees}
use Rattle.classifier.proofs.WholeStepLemmas.{opening_fault}
use Rattle.classifier.proofs.WholeWritingLemmas.{told_with}
use Rattle.classifier.proofs.whole.classify.Goals as goal

pub answer_all-requires-clause-may_open : goal.answer_all-requires-clause-may_open
answer_all-requires-clause-may_open g c =
    may_open c.args.kb.now c.args.plan.now c.args.found.now.conflicts c.args.found.now.closures.items c.args.better.now c.args.candidates.now
    c.requires.of_input c.requires.few

pub answer_all-requires-clause-may_answer : goal.answer_all-requires-clause-may_answer
answer_all-requires-clause-may_answer g c =
    may_answer_all c.args.kb.now c.args.plan.now c.args.found.now.conflicts c.args.found.now.closures.items c.args.better.now c.requires.of_query.0
    c.args.closure.now c.args.candidates.now c.args.vocab.now.inds c.requires.of_input c.requires.of_query.1 c.requires.texts c.requires.few

pub returns-in_err-tell_opening-clause-right : goal.returns-in_err-tell_opening-clause-right
returns-in_err-tell_opening-clause-right g c q of_query none =
    let found = c.args.found.now in
    opening_fault _ c.args.kb.now c.args.vocab.now.inds q c.args.plan.now
    (opening_lines c.args.kb.now c.args.plan.now c.args.closure.now found.closures.items found.conflicts.clashes)
    (g.L.Report.lines c.args.report.now) (g.L.Report.lines c.tell_opening.new.report) (g.L.Report.torn c.tell_opening.new.report) none
    (opening_in_turn c.args.kb.now c.args.vocab.now.inds q c.args.plan.now found.conflicts found.closures.items c.args.better.now c.args.closure.now
    c.requires.of_input of_query.closes c.members-members.ensures.derivation
    (subst (λ (cs : List (ℕ × List Member)). All (λ (x : ℕ × List Member). IsDerivation x.1) cs) c.as_slice.ensures.value c.are_derived.ensures)
    c.clashes-clashes.ensures.kept)
    c.in_err-tell_opening.ensures.written c.from_residual.result c.from_residual.ensures.1

pub returns-clause-right : goal.returns-clause-right
returns-clause-right g c q of_query none =
    let found = c.args.found.now in
    let lines = opening_lines c.args.kb.now c.args.plan.now c.args.closure.now found.closures.items found.conflicts.clashes in
    c.answer_all.ensures.right c.args.kb.now q c.args.closure.now (with_lines [] lines)
    (told_with [] lines (g.L.Report.lines c.args.report.now) (g.L.Report.lines c.tell_opening.new.report) none c.in_ok-tell_opening.ensures.written.0)
    of_query.answers
    (opening_agrees c.args.kb.now c.args.vocab.now.inds q c.args.plan.now found.conflicts found.closures.items c.args.better.now c.args.closure.now
    (length c.args.candidates.now) c.requires.of_input of_query.closes c.members-members.ensures.derivation
    (subst (λ (cs : List (ℕ × List Member)). All (λ (x : ℕ × List Member). IsDerivation x.1) cs) c.as_slice.ensures.value c.are_derived.ensures)
    c.clashes-clashes.ensures.kept)

pub returns-clause-answers : goal.returns-clause-answers
returns-clause-answers g c =
    let found = c.args.found.now in
    IfOk-weaker c.answer_all.result (IsSummaryOver found.conflicts c.args.better.now c.args.plan.now c.args.candidates.now)
    (λ (s : Summary). s.answers ≡ length c.args.candidates.now)
    (λ s w. answers_counted found.conflicts c.args.better.now c.args.plan.now c.args.candidates.now s w) c.answer_all.ensures.said

pub returns-clause-counts : goal.returns-clause-counts
returns-clause-counts g c q of_query =
    let found = c.args.found.now in
    IfOk-weaker c.answer_all.result (IsSummaryOver found.conflicts c.args.better.now c.args.plan.now c.args.candidates.now)
    (CountsHolding c.args.kb.now c.args.plan.now.repairs q c.args.candidates.now)
    (λ s w. holding_counted c.args.kb.now found.conflicts c.args.better.now c.args.plan.now q c.args.candidates.now s c.requires.of_input.priority
    (in_place c.args.kb.now q c.args.closure.now c.args.candidates.now of_query.answers) w) c.answer_all.ensures.said

pub returns-clause-by_budget : goal.returns-clause-by_budget
returns-clause-by_budget g c =
    let found = c.args.found.now in
    let (q, of_query) = c.requires.of_query in
    IfOk-weaker c.answer_all.result (IsSummaryOver found.conflicts c.args.better.now c.args.plan.now c.args.candidates.now)
    (OpenAboveBudget found.conflicts c.args.plan.now.budget c.args.candidates.now)
    (λ s w. open_above found.conflicts c.args.better.now c.args.plan.now c.args.candidates.now s
    (bounds_are c.args.kb.now c.args.plan.now found.conflicts found.closures.items c.args.better.now q c.args.closure.now c.args.candidates.now
    c.requires.of_input of_query) w) c.answer_all.ensures.said

pub returns-clause-over_all : goal.returns-clause-over_all
returns-clause-over_all g c in_all =
    let found = c.args.found.now in
    IfOk-weaker c.answer_all.result (IsSummaryOver found.conflicts c.args.better.now c.args.plan.now c.args.candidates.now)
    (OpenOfManyCauses c.args.candidates.now)
    (λ s w. open_of_many found.conflicts c.args.better.now c.args.plan.now c.args.candidates.now s in_all w) c.answer_all.ensures.said
