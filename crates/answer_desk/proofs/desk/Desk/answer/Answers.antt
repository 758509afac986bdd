use Rattle.std.proofs.Common.{sym, subst, false, Ok}
use Rattle.answer_desk.specs.Answering.{DecideByBudget, DecideOverAll, TellTruth}
use Rattle.answer_desk.specs.Desks.{DeskState, MayAnswer}
use Rattle.answer_desk.specs.Works.{desk_of}
use Rattle.answer_desk.proofs.FollowingWholeLemmas.{desk_with, desk_was, desk_ready, desk_next, right_of}
use Rattle.answer_desk.proofs.desk.Desk.answer.Goals as goal

pub answer-requires-clause-ready : goal.answer-requires-clause-ready
answer-requires-clause-ready g c =
    desk_ready c.self.inside.work c.self.inside.selectors c.self.inside.failed c.args.self.now c.self.view_is c.requires.whole c.self.invariant

pub answer-requires-clause-may_answer : goal.answer-requires-clause-may_answer
answer-requires-clause-may_answer g c =
    subst (λ (d : DeskState). MayAnswer d c.args.number c.args.candidate.now.causes)
    (sym (desk_was c.self.inside.work c.self.inside.selectors c.self.inside.failed c.args.self.now c.self.view_is c.requires.whole c.self.invariant))
    c.requires.may_answer

pub returns-clause-truth : goal.returns-clause-truth
returns-clause-truth g c =
    subst (λ (d : DeskState). TellTruth d c.args.candidate.now.tuple c.args.candidate.now.causes c.in_ok-verdicts.verdicts)
    (desk_was c.self.inside.work c.self.inside.selectors c.self.inside.failed c.args.self.now c.self.view_is c.requires.whole c.self.invariant)
    c.in_ok-verdicts.ensures.truth

pub returns-clause-over_all : goal.returns-clause-over_all
returns-clause-over_all g c =
    subst (λ (d : DeskState). DecideOverAll d c.args.candidate.now.causes c.in_ok-verdicts.verdicts)
    (desk_was c.self.inside.work c.self.inside.selectors c.self.inside.failed c.args.self.now c.self.view_is c.requires.whole c.self.invariant)
    c.in_ok-verdicts.ensures.over_all

pub returns-clause-by_budget : goal.returns-clause-by_budget
returns-clause-by_budget g c =
    subst (λ (d : DeskState). DecideByBudget d c.args.candidate.now.causes c.in_ok-verdicts.verdicts)
    (desk_was c.self.inside.work c.self.inside.selectors c.self.inside.failed c.args.self.now c.self.view_is c.requires.whole c.self.invariant)
    c.in_ok-verdicts.ensures.by_budget

pub returns-clause-right : goal.returns-clause-right
returns-clause-right g c =
    right_of c.self.inside.work c.self.inside.selectors c.self.inside.failed c.args.self.now c.self.view_is c.requires.whole c.self.invariant
    (desk_of c.answer.new.self) (desk_with c.answer.new.self c.self.inside.selectors false)
    (desk_next c.self.inside.work c.self.inside.selectors c.self.inside.failed c.args.self.now c.self.view_is c.requires.whole c.self.invariant
    c.answer.new.self c.answer.ensures.only c.in_ok-verdicts.ensures.variables)
    c.args.number c.args.candidate.now.tuple c.args.candidate.now.causes c.args.candidate.now.members c.args.names.now
    (g.L.Report.lines c.args.report.now) (g.L.Report.lines c.answer.new.report) (g.L.Report.torn c.answer.new.report) (Ok c.in_ok-verdicts.verdicts)
    c.in_ok-verdicts.ensures.right
