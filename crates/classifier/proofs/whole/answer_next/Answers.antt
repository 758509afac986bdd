use Rattle.std.proofs.Common.{◌≡◌, ℕ, List, Some, slice_get, subst}
use Rattle.std.specs.List.{AllZip}
use Rattle.classifier.proofs.WholeStepLemmas.{next_nothing, next_answered}
use Rattle.classifier.proofs.whole.answer_next.Goals as goal

pub returns-in_err-names-clause-right : goal.returns-in_err-names-clause-right
returns-in_err-names-clause-right g c =
    next_nothing _ c.args.desk.now c.args.desk.now c.args.number c.args.candidate.now c.args.individuals.now (g.L.Report.lines c.args.report.now)
    (g.L.Report.torn c.args.report.now) c.requires.none_torn c.from_residual.result c.from_residual.ensures.1

pub returns-clause-right : goal.returns-clause-right
returns-clause-right g c =
    next_answered c.args.desk.now c.answer.new.self c.args.number c.args.candidate.now c.args.individuals.now c.in_ok-names.names
    (g.L.Report.lines c.args.report.now) (g.L.Report.lines c.answer.new.report) (g.L.Report.torn c.answer.new.report) c.answer.result
    (subst (λ (is : List ℕ). AllZip (λ (i : ℕ) (text : List ℕ). slice_get c.args.individuals.now i ≡ Some text) is c.in_ok-names.names)
    c.as_slice.ensures.lent c.in_ok-names.ensures.exact) c.answer.ensures.right
