use Rattle.std.proofs.Common.{List, ℕ, [], refl, subst, ap}
use Rattle.std.proofs.lemmas.Result.{on_ok_weaker, on_err_weaker}
use Rattle.answer_desk.specs.Following.{AtBrave, FollowsOpen, StopsAfter, IarIsOver}
use Rattle.answer_desk.specs.Frames.{ForEachFrame}
use Rattle.answer_desk.proofs.FollowingAskLemmas.{brave_at, iar_at, frame_on, same_opening, same_then, only_then, halts_then, questions_go, questions_stop}
use Rattle.answer_desk.proofs.TryLemmas.{on_err}
use Rattle.answer_desk.proofs.work.Work.ask.Goals as goal

pub returns-in_err-ask_brave-clause-stops : goal.returns-in_err-ask_brave-clause-stops
returns-in_err-ask_brave-clause-stops g c =
    on_err (ForEachFrame c.args.self.now.conflicts.now c.args.self.now.better.now c.args.causes.now c.args.opening.now c.args.self.now.plan.budget
    (λ w more. FollowsOpen w more c.args.self.now.solver c.args.self.now.cores (AtBrave [] 0) c.args.opening.now.evidence
    → StopsAfter w more (g.L.Report.lines c.args.report.now) (g.L.Report.lines c.ask_brave.new.report) (g.L.Report.torn c.ask_brave.new.report)))
    c.from_residual.result
    (λ w more f o. c.in_err-ask_brave.ensures.stops w more
    (frame_on w c.args.self.now c.args.self.now c.args.causes.now c.as_slice-lists.result.now c.args.opening.now c.args.opening.now
    c.args.self.now.plan.budget c.args.self.now.plan.budget refl c.as_slice-lists.ensures.lent (same_opening c.args.opening.now) refl f) o)

pub returns-in_err-ask_iar-clause-stops : goal.returns-in_err-ask_iar-clause-stops
returns-in_err-ask_iar-clause-stops g c =
    on_err (ForEachFrame c.args.self.now.conflicts.now c.args.self.now.better.now c.args.causes.now c.args.opening.now c.args.self.now.plan.budget
    (λ w more. FollowsOpen w more c.args.self.now.solver c.args.self.now.cores (AtBrave [] 0) c.args.opening.now.evidence
    → StopsAfter w more (g.L.Report.lines c.args.report.now) (g.L.Report.lines c.ask_iar.new.report) (g.L.Report.torn c.ask_iar.new.report)))
    c.from_residual-in_err-ask_iar.result
    (λ w more f o.
    halts_then w
    (brave_at c.args.self.now.solver c.args.self.now.cores [] 0 c.args.opening.now.evidence (g.L.Report.lines c.args.report.now))
    (iar_at c.ask_brave.new.self.solver c.ask_brave.new.self.cores 0 c.ask_brave.new.opening.evidence (g.L.Report.lines c.ask_brave.new.report))
    (g.L.Report.lines c.ask_iar.new.report) (g.L.Report.torn c.ask_iar.new.report)
    (λ ls at. c.in_ok-ask_brave.ensures.follows w ls
    (frame_on w c.args.self.now c.args.self.now c.args.causes.now c.as_slice-lists.result.now c.args.opening.now c.args.opening.now
    c.args.self.now.plan.budget c.args.self.now.plan.budget refl c.as_slice-lists.ensures.lent (same_opening c.args.opening.now) refl f) at)
    (λ ls at. c.in_err-ask_iar.ensures.stops w ls
    (frame_on w c.args.self.now c.ask_brave.new.self c.args.causes.now c.as_slice-lists.result.now c.args.opening.now c.ask_brave.new.opening
    c.args.self.now.plan.budget c.ask_brave.new.self.plan.budget c.ask_brave.ensures.only c.as_slice-lists.ensures.lent c.ask_brave.ensures.same
    (ap (λ v. v.plan.budget) c.ask_brave.ensures.only) f) at)
    more o)

pub returns-clause-follows : goal.returns-clause-follows
returns-clause-follows g c = on_ok_weaker c.ask_ar.result
    (λ ends w more f o.
    questions_go w c.as_slice-lists.result.now
    (brave_at c.args.self.now.solver c.args.self.now.cores [] 0 c.args.opening.now.evidence (g.L.Report.lines c.args.report.now))
    c.ask_brave.new.self.solver c.ask_iar.new.self.solver c.ask_brave.new.self.cores c.ask_iar.new.self.cores
    c.ask_brave.new.opening.evidence c.ask_iar.new.opening.evidence (g.L.Report.lines c.ask_brave.new.report) (g.L.Report.lines c.ask_iar.new.report)
    (λ ls at. c.in_ok-ask_brave.ensures.follows w ls
    (frame_on w c.args.self.now c.args.self.now c.args.causes.now c.as_slice-lists.result.now c.args.opening.now c.args.opening.now
    c.args.self.now.plan.budget c.args.self.now.plan.budget refl c.as_slice-lists.ensures.lent (same_opening c.args.opening.now) refl f) at)
    (λ ls at. c.in_ok-ask_iar.ensures.follows w ls
    (frame_on w c.args.self.now c.ask_brave.new.self c.args.causes.now c.as_slice-lists.result.now c.args.opening.now c.ask_brave.new.opening
    c.args.self.now.plan.budget c.ask_brave.new.self.plan.budget c.ask_brave.ensures.only c.as_slice-lists.ensures.lent c.ask_brave.ensures.same
    (ap (λ v. v.plan.budget) c.ask_brave.ensures.only) f) at)
    c.ask_ar.new.self.solver c.ask_ar.new.self.cores c.ask_ar.new.opening.evidence (g.L.Report.lines c.ask_ar.new.report)
    (λ ls used at over. ends w ls
    (frame_on w c.args.self.now c.ask_iar.new.self c.args.causes.now c.args.causes.now c.args.opening.now c.ask_iar.new.opening
    c.args.self.now.plan.budget c.ask_iar.new.self.plan.budget
    (only_then c.args.self.now c.ask_brave.new.self c.ask_iar.new.self c.ask_brave.ensures.only c.ask_iar.ensures.only) refl
    (same_then c.args.opening.now c.ask_brave.new.opening c.ask_iar.new.opening c.ask_brave.ensures.same c.ask_iar.ensures.same)
    (ap (λ v. v.plan.budget) (only_then c.args.self.now c.ask_brave.new.self c.ask_iar.new.self c.ask_brave.ensures.only c.ask_iar.ensures.only)) f)
    used at (subst (λ (cs : List (List ℕ)). IarIsOver cs c.ask_iar.new.opening.evidence) c.as_slice-lists.ensures.lent over))
    more o) c.ask_ar.ensures.follows

pub returns-clause-stops : goal.returns-clause-stops
returns-clause-stops g c = on_err_weaker c.ask_ar.result
    (λ ends w more f o.
    questions_stop w c.as_slice-lists.result.now
    (brave_at c.args.self.now.solver c.args.self.now.cores [] 0 c.args.opening.now.evidence (g.L.Report.lines c.args.report.now))
    c.ask_brave.new.self.solver c.ask_iar.new.self.solver c.ask_brave.new.self.cores c.ask_iar.new.self.cores
    c.ask_brave.new.opening.evidence c.ask_iar.new.opening.evidence (g.L.Report.lines c.ask_brave.new.report) (g.L.Report.lines c.ask_iar.new.report)
    (λ ls at. c.in_ok-ask_brave.ensures.follows w ls
    (frame_on w c.args.self.now c.args.self.now c.args.causes.now c.as_slice-lists.result.now c.args.opening.now c.args.opening.now
    c.args.self.now.plan.budget c.args.self.now.plan.budget refl c.as_slice-lists.ensures.lent (same_opening c.args.opening.now) refl f) at)
    (λ ls at. c.in_ok-ask_iar.ensures.follows w ls
    (frame_on w c.args.self.now c.ask_brave.new.self c.args.causes.now c.as_slice-lists.result.now c.args.opening.now c.ask_brave.new.opening
    c.args.self.now.plan.budget c.ask_brave.new.self.plan.budget c.ask_brave.ensures.only c.as_slice-lists.ensures.lent c.ask_brave.ensures.same
    (ap (λ v. v.plan.budget) c.ask_brave.ensures.only) f) at)
    (g.L.Report.lines c.ask_ar.new.report) (g.L.Report.torn c.ask_ar.new.report)
    (λ ls used at over. ends w ls
    (frame_on w c.args.self.now c.ask_iar.new.self c.args.causes.now c.args.causes.now c.args.opening.now c.ask_iar.new.opening
    c.args.self.now.plan.budget c.ask_iar.new.self.plan.budget
    (only_then c.args.self.now c.ask_brave.new.self c.ask_iar.new.self c.ask_brave.ensures.only c.ask_iar.ensures.only) refl
    (same_then c.args.opening.now c.ask_brave.new.opening c.ask_iar.new.opening c.ask_brave.ensures.same c.ask_iar.ensures.same)
    (ap (λ v. v.plan.budget) (only_then c.args.self.now c.ask_brave.new.self c.ask_iar.new.self c.ask_brave.ensures.only c.ask_iar.ensures.only)) f)
    used at (subst (λ (cs : List (List ℕ)). IarIsOver cs c.ask_iar.new.opening.evidence) c.as_slice-lists.ensures.lent over))
    more o) c.ask_ar.ensures.stops
