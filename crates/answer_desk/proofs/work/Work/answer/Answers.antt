use Rattle.std.proofs.Common.{◌+◌, refl, ap, ◌∙◌, arith}
use Rattle.std.proofs.lemmas.Result.{on_ok_weaker}
use Rattle.answer_evidence.specs.declared.opening.Opening.{Opening}
use Rattle.answer_desk.specs.Works.{desk_of}
use Rattle.answer_desk.proofs.FollowingWholeLemmas.{opened, asked_on, asked_off, cores_stay, causes_few, unopened, unasked, answers_fault}
use Rattle.answer_desk.proofs.FollowingWholeLemmas.{closed_right, closed_true, closed_over_all, closed_by_budget, closed_again, closed_desk, ok_two}
use Rattle.answer_desk.proofs.ReadyLemmas.{ready_apart}
use Rattle.answer_desk.proofs.work.Work.answer.Goals as goal

pub open-requires-clause-few : goal.open-requires-clause-few
open-requires-clause-few g c = let few = c.requires.ready.few in let fits = c.requires.may_answer.number_fits in omega arith

pub open-requires-clause-variables : goal.open-requires-clause-variables
open-requires-clause-variables g c = let all = c.requires.ready.variables in let fits = c.requires.may_answer.number_fits in omega arith

pub open-requires-clause-apart : goal.open-requires-clause-apart
open-requires-clause-apart g c = ready_apart (desk_of c.args.self.now) c.args.self.now.solver c.linear-order.ensures.kept refl c.requires.ready

pub ask-requires-clause-room : goal.ask-requires-clause-room
ask-requires-clause-room g c =
    let next = c.in_ok-opening.ensures.loaded.next in
    let plan = ap (λ w. w.plan.budget) c.open.ensures.only in
    let clauses = c.requires.ready.clauses in
    let budget = c.requires.ready.budget in
    let answers = c.requires.may_answer.answers in
    omega arith

pub ask-requires-clause-few : goal.ask-requires-clause-few
ask-requires-clause-few g c =
    let cores = ap (λ w. w.cores) c.open.ensures.only in
    let few = c.requires.ready.cores in
    let answers = c.requires.may_answer.answers in
    let many = causes_few c.args.self.now.better.now c.args.candidate.now.causes c.requires.may_answer.causes_are in
    let total = c.requires.may_answer.few in
    omega arith

pub close-requires-clause-counted : goal.close-requires-clause-counted
close-requires-clause-counted g c =
    let h = opened c.args.self.now c.open.new.self c.args.number c.args.candidate.now.tuple c.args.candidate.now.causes c.args.candidate.now.members
    c.in_ok-opening.opening c.open.ensures.only c.requires.ready c.linear-order.ensures.kept c.requires.may_answer c.in_ok-opening.ensures.open
    c.in_ok-opening.ensures.selector c.in_ok-opening.ensures.nothing c.in_ok-opening.ensures.loaded in
    let goes = asked_on c.args.self.now c.open.new.self c.args.number c.args.candidate.now.tuple c.args.candidate.now.causes
    c.args.candidate.now.members c.in_ok-opening.opening h c.open.ensures.only c.ask.new.self.solver c.ask.new.self.cores c.ask.new.opening.evidence
    (g.L.Report.lines c.open.new.report) (g.L.Report.lines c.ask.new.report) c.in_ok-ask.ensures.follows in
    let stay = cores_stay c.args.self.now c.open.new.self c.args.number c.args.candidate.now.tuple c.args.candidate.now.causes
    c.args.candidate.now.members c.in_ok-opening.opening h c.open.ensures.only c.ask.new.self.solver c.ask.new.self.cores c.ask.new.opening.evidence
    (g.L.Report.lines c.open.new.report) (g.L.Report.lines c.ask.new.report) goes in
    let first = c.ask.ensures.same.first_core in
    let own = c.in_ok-opening.ensures.first_core in
    omega arith

pub close-requires-clause-few : goal.close-requires-clause-few
close-requires-clause-few g c =
    let first = ap (λ w. w.answers) c.open.ensures.only in
    let second = ap (λ w. w.answers) c.ask.ensures.only in
    let answers = c.requires.may_answer.answers in
    omega arith

pub returns-in_err-opening-clause-right : goal.returns-in_err-opening-clause-right
returns-in_err-opening-clause-right g c = answers_fault (desk_of c.args.self.now) (desk_of c.open.new.self) c.args.number c.args.candidate.now.tuple
    c.args.candidate.now.causes c.args.candidate.now.members c.args.names.now (g.L.Report.lines c.args.report.now) (g.L.Report.lines c.open.new.report)
    (g.L.Report.torn c.open.new.report) _ c.from_residual.result c.from_residual.ensures.1
    (λ f. unopened (desk_of c.args.self.now) (desk_of c.open.new.self) c.args.number c.args.candidate.now.tuple c.args.candidate.now.causes
    c.args.candidate.now.members c.args.names.now (g.L.Report.lines c.args.report.now) (g.L.Report.lines c.open.new.report)
    (g.L.Report.torn c.open.new.report) Opening c.in_err-opening.field-0.0 f c.in_err-opening.ensures.broken c.in_err-opening.ensures.torn)

pub returns-in_err-ask-clause-right : goal.returns-in_err-ask-clause-right
returns-in_err-ask-clause-right g c =
    let h = opened c.args.self.now c.open.new.self c.args.number c.args.candidate.now.tuple c.args.candidate.now.causes c.args.candidate.now.members
    c.in_ok-opening.opening c.open.ensures.only c.requires.ready c.linear-order.ensures.kept c.requires.may_answer c.in_ok-opening.ensures.open
    c.in_ok-opening.ensures.selector c.in_ok-opening.ensures.nothing c.in_ok-opening.ensures.loaded in
    let stops = asked_off c.args.self.now c.open.new.self c.args.number c.args.candidate.now.tuple c.args.candidate.now.causes
    c.args.candidate.now.members c.in_ok-opening.opening h c.open.ensures.only (g.L.Report.lines c.open.new.report) (g.L.Report.lines c.ask.new.report)
    (g.L.Report.torn c.ask.new.report) c.in_err-ask.ensures.stops in
    answers_fault (desk_of c.args.self.now) (desk_of c.ask.new.self) c.args.number c.args.candidate.now.tuple
    c.args.candidate.now.causes c.args.candidate.now.members c.args.names.now (g.L.Report.lines c.args.report.now) (g.L.Report.lines c.ask.new.report)
    (g.L.Report.torn c.ask.new.report) _ c.from_residual-in_err-ask.result c.from_residual-in_err-ask.ensures.1
    (λ f. unasked (desk_of c.args.self.now) c.args.number c.args.candidate.now.tuple c.args.candidate.now.causes c.args.candidate.now.members
    c.open.new.self.solver c.in_ok-opening.opening h c.args.names.now (g.L.Report.lines c.args.report.now) (g.L.Report.lines c.open.new.report)
    c.in_ok-opening.ensures.told (desk_of c.ask.new.self) f (g.L.Report.lines c.ask.new.report) (g.L.Report.torn c.ask.new.report) stops)

pub returns-clause-truth : goal.returns-clause-truth
returns-clause-truth g c =
    let h = opened c.args.self.now c.open.new.self c.args.number c.args.candidate.now.tuple c.args.candidate.now.causes c.args.candidate.now.members
    c.in_ok-opening.opening c.open.ensures.only c.requires.ready c.linear-order.ensures.kept c.requires.may_answer c.in_ok-opening.ensures.open
    c.in_ok-opening.ensures.selector c.in_ok-opening.ensures.nothing c.in_ok-opening.ensures.loaded in
    let goes = asked_on c.args.self.now c.open.new.self c.args.number c.args.candidate.now.tuple c.args.candidate.now.causes
    c.args.candidate.now.members c.in_ok-opening.opening h c.open.ensures.only c.ask.new.self.solver c.ask.new.self.cores c.ask.new.opening.evidence
    (g.L.Report.lines c.open.new.report) (g.L.Report.lines c.ask.new.report) c.in_ok-ask.ensures.follows in
    closed_true (desk_of c.args.self.now) c.args.number c.args.candidate.now.tuple c.args.candidate.now.causes c.args.candidate.now.members
    c.open.new.self.solver c.in_ok-opening.opening h (g.L.Report.lines c.open.new.report) c.ask.new.self.solver c.ask.new.self.cores
    c.ask.new.opening.evidence (g.L.Report.lines c.ask.new.report) goes c.close.result c.close.ensures.verdicts

pub returns-clause-over_all : goal.returns-clause-over_all
returns-clause-over_all g c =
    let h = opened c.args.self.now c.open.new.self c.args.number c.args.candidate.now.tuple c.args.candidate.now.causes c.args.candidate.now.members
    c.in_ok-opening.opening c.open.ensures.only c.requires.ready c.linear-order.ensures.kept c.requires.may_answer c.in_ok-opening.ensures.open
    c.in_ok-opening.ensures.selector c.in_ok-opening.ensures.nothing c.in_ok-opening.ensures.loaded in
    let goes = asked_on c.args.self.now c.open.new.self c.args.number c.args.candidate.now.tuple c.args.candidate.now.causes
    c.args.candidate.now.members c.in_ok-opening.opening h c.open.ensures.only c.ask.new.self.solver c.ask.new.self.cores c.ask.new.opening.evidence
    (g.L.Report.lines c.open.new.report) (g.L.Report.lines c.ask.new.report) c.in_ok-ask.ensures.follows in
    closed_over_all (desk_of c.args.self.now) c.args.number c.args.candidate.now.tuple c.args.candidate.now.causes c.args.candidate.now.members
    c.open.new.self.solver c.in_ok-opening.opening h (g.L.Report.lines c.open.new.report) c.ask.new.self.solver c.ask.new.self.cores
    c.ask.new.opening.evidence (g.L.Report.lines c.ask.new.report) goes c.close.result c.close.ensures.verdicts

pub returns-clause-by_budget : goal.returns-clause-by_budget
returns-clause-by_budget g c =
    let h = opened c.args.self.now c.open.new.self c.args.number c.args.candidate.now.tuple c.args.candidate.now.causes c.args.candidate.now.members
    c.in_ok-opening.opening c.open.ensures.only c.requires.ready c.linear-order.ensures.kept c.requires.may_answer c.in_ok-opening.ensures.open
    c.in_ok-opening.ensures.selector c.in_ok-opening.ensures.nothing c.in_ok-opening.ensures.loaded in
    let goes = asked_on c.args.self.now c.open.new.self c.args.number c.args.candidate.now.tuple c.args.candidate.now.causes
    c.args.candidate.now.members c.in_ok-opening.opening h c.open.ensures.only c.ask.new.self.solver c.ask.new.self.cores c.ask.new.opening.evidence
    (g.L.Report.lines c.open.new.report) (g.L.Report.lines c.ask.new.report) c.in_ok-ask.ensures.follows in
    closed_by_budget (desk_of c.args.self.now) c.args.number c.args.candidate.now.tuple c.args.candidate.now.causes c.args.candidate.now.members
    c.open.new.self.solver c.in_ok-opening.opening h (g.L.Report.lines c.open.new.report) c.ask.new.self.solver c.ask.new.self.cores
    c.ask.new.opening.evidence (g.L.Report.lines c.ask.new.report) goes c.close.result c.close.ensures.verdicts

pub returns-clause-right : goal.returns-clause-right
returns-clause-right g c =
    let h = opened c.args.self.now c.open.new.self c.args.number c.args.candidate.now.tuple c.args.candidate.now.causes c.args.candidate.now.members
    c.in_ok-opening.opening c.open.ensures.only c.requires.ready c.linear-order.ensures.kept c.requires.may_answer c.in_ok-opening.ensures.open
    c.in_ok-opening.ensures.selector c.in_ok-opening.ensures.nothing c.in_ok-opening.ensures.loaded in
    let goes = asked_on c.args.self.now c.open.new.self c.args.number c.args.candidate.now.tuple c.args.candidate.now.causes
    c.args.candidate.now.members c.in_ok-opening.opening h c.open.ensures.only c.ask.new.self.solver c.ask.new.self.cores c.ask.new.opening.evidence
    (g.L.Report.lines c.open.new.report) (g.L.Report.lines c.ask.new.report) c.in_ok-ask.ensures.follows in
    closed_right (desk_of c.args.self.now) c.args.number c.args.candidate.now.tuple c.args.candidate.now.causes c.args.candidate.now.members
    c.open.new.self.solver c.in_ok-opening.opening h c.args.names.now (g.L.Report.lines c.args.report.now) (g.L.Report.lines c.open.new.report)
    c.in_ok-opening.ensures.told c.ask.new.self.solver c.ask.new.self.cores c.ask.new.opening.evidence (g.L.Report.lines c.ask.new.report) goes
    (g.L.Report.lines c.close.new.report) (g.L.Report.torn c.close.new.report) (desk_of c.close.new.self) c.ask.new.opening.first_core c.close.result
    (c.ask.ensures.same.first_core ∙ c.in_ok-opening.ensures.first_core) c.close.ensures.verdicts c.close.ensures.added c.close.ensures.unchanged
    c.close.ensures.torn c.close.ensures.none_torn
    (ok_two _ _ _ c.close.result
    (closed_desk c.args.self.now c.open.new.self c.ask.new.self c.close.new.self c.args.number c.args.candidate.now.tuple
    c.args.candidate.now.causes c.args.candidate.now.members c.in_ok-opening.opening c.ask.new.opening h c.requires.ready c.requires.may_answer
    c.open.ensures.only c.ask.ensures.only c.close.ensures.only c.in_ok-opening.ensures.selector c.ask.ensures.same
    (c.in_ok-ask.ensures.variables ∙ c.in_ok-opening.ensures.loaded.variables) c.in_ok-ask.ensures.counted)
    c.close.ensures.counted c.close.ensures.closed)

pub returns-clause-again : goal.returns-clause-again
returns-clause-again g c =
    let h = opened c.args.self.now c.open.new.self c.args.number c.args.candidate.now.tuple c.args.candidate.now.causes c.args.candidate.now.members
    c.in_ok-opening.opening c.open.ensures.only c.requires.ready c.linear-order.ensures.kept c.requires.may_answer c.in_ok-opening.ensures.open
    c.in_ok-opening.ensures.selector c.in_ok-opening.ensures.nothing c.in_ok-opening.ensures.loaded in
    let goes = asked_on c.args.self.now c.open.new.self c.args.number c.args.candidate.now.tuple c.args.candidate.now.causes
    c.args.candidate.now.members c.in_ok-opening.opening h c.open.ensures.only c.ask.new.self.solver c.ask.new.self.cores c.ask.new.opening.evidence
    (g.L.Report.lines c.open.new.report) (g.L.Report.lines c.ask.new.report) c.in_ok-ask.ensures.follows in
    ok_two _ _ _ c.close.result
    (closed_again c.args.self.now c.open.new.self c.ask.new.self c.close.new.self c.args.number c.args.candidate.now.tuple
    c.args.candidate.now.causes c.args.candidate.now.members c.in_ok-opening.opening c.ask.new.opening h c.requires.ready c.requires.may_answer
    c.open.ensures.only c.ask.ensures.only c.close.ensures.only c.in_ok-opening.ensures.selector c.ask.ensures.same
    (c.in_ok-ask.ensures.variables ∙ c.in_ok-opening.ensures.loaded.variables) c.in_ok-ask.ensures.counted
    (g.L.Report.lines c.open.new.report) (g.L.Report.lines c.ask.new.report) goes) c.close.ensures.counted c.close.ensures.closed

pub returns-clause-variables : goal.returns-clause-variables
returns-clause-variables g c = on_ok_weaker c.close.result
    (λ closed. ap (λ s. s.variables) closed ∙ (c.in_ok-ask.ensures.variables ∙ c.in_ok-opening.ensures.loaded.variables)) c.close.ensures.closed

pub returns-clause-counted : goal.returns-clause-counted
returns-clause-counted g c = on_ok_weaker c.close.result
    (λ counted. counted ∙ ap (λ n. n + 1) (ap (λ w. w.answers) c.ask.ensures.only ∙ ap (λ w. w.answers) c.open.ensures.only)) c.close.ensures.counted
