use Rattle.std.proofs.Common.{rules, List, ℕ, [], OnErr, Option, Some, None, Result, Ok, Err, refl, sym, subst}
use Rattle.report_text.specs.declared.line.Line.{Line}
use Rattle.answer_evidence.specs.declared.aim.Aim.TheVariants as aim
use Rattle.answer_desk.specs.Following.{AtIar, FollowsOpen, GoesOn, AddsLines, StopsAfter}
use Rattle.answer_desk.specs.Frames.{ForEachFrame}
use Rattle.answer_desk.specs.PlacesOver.{IsAskedAt}
use Rattle.answer_desk.specs.Trying.{lines_of}
use Rattle.answer_desk.proofs.FollowingTriesLemmas.{tries_break, try_of}
use Rattle.answer_desk.proofs.FollowingAskLemmas.{tries_variables}
use Rattle.answer_desk.proofs.FollowingCallLemmas.{fact_follows, fact_stops}
use Rattle.answer_desk.proofs.FollowingPlaceLemmas.{fact_seen}
use Rattle.answer_desk.proofs.work.Work.how_of_fact.Goals as goal

adds_nothing : (was : Option (List Line)) → AddsLines was was []
adds_nothing None = tt
adds_nothing (Some lines) = search rules

pub returns-in-Some-clause-follows : goal.returns-in-Some-clause-follows
returns-in-Some-clause-follows g c w more f place asked o = ([], o, adds_nothing (g.L.Report.lines c.args.report.now))

on_err : {T E : Type 0} (r : Result T E) (P : Type 0) → P → OnErr r P
on_err (Ok v) P p = tt
on_err (Err e) P p = p

pub returns-in_err-how-clause-stops : goal.returns-in_err-how-clause-stops
returns-in_err-how-clause-stops g c = on_err c.from_residual.result
    (ForEachFrame c.args.self.now.conflicts.now c.args.self.now.better.now c.args.causes.now c.args.opening.now c.args.budget.now.limit
    (λ w more. (place : ℕ) → IsAskedAt c.args.causes.now c.args.opening.now.evidence place c.args.fact
    → FollowsOpen w more c.args.self.now.solver c.args.self.now.cores (AtIar c.args.budget.now.used) c.args.opening.now.evidence
    → StopsAfter w more (g.L.Report.lines c.args.report.now) (g.L.Report.lines c.try_for.new.report) (g.L.Report.torn c.try_for.new.report)))
    (λ w more f place asked o.
    let (added, breaks, gets) = c.in_err-how.ensures.broken in
    fact_stops w more c.args.self.now.conflicts.now c.args.self.now.better.now c.args.causes.now c.args.opening.now.selector
    c.args.opening.now.scope.items c.args.budget.now.limit f
    (record { old = c.args.self.now.solver; new = c.try_for.new.self.solver; was = c.args.budget.now; now = c.try_for.new.budget })
    c.args.self.now.cores c.args.opening.now.evidence refl (g.L.Report.lines c.args.report.now) (g.L.Report.lines c.try_for.new.report)
    o place c.args.fact asked.below asked.member asked.uncut c.in_default.ensures.exact.0 c.in_default.ensures.exact.1 asked.unsettled
    (g.L.Report.torn c.try_for.new.report) added breaks gets)

pub returns-in_err-see_iar-clause-stops : goal.returns-in_err-see_iar-clause-stops
returns-in_err-see_iar-clause-stops g c = on_err c.from_residual-in_err-see_iar.result
    (ForEachFrame c.args.self.now.conflicts.now c.args.self.now.better.now c.args.causes.now c.args.opening.now c.args.budget.now.limit
    (λ w more. (place : ℕ) → IsAskedAt c.args.causes.now c.args.opening.now.evidence place c.args.fact
    → FollowsOpen w more c.args.self.now.solver c.args.self.now.cores (AtIar c.args.budget.now.used) c.args.opening.now.evidence
    → StopsAfter w more (g.L.Report.lines c.args.report.now) (g.L.Report.lines c.try_for.new.report) (g.L.Report.torn c.try_for.new.report)))
    (λ w more f place asked o.
    subst (λ (torn : Option Line). StopsAfter w more (g.L.Report.lines c.args.report.now) (g.L.Report.lines c.try_for.new.report) torn)
    (sym c.in_ok-how.ensures.none_torn)
    (fact_stops w more c.args.self.now.conflicts.now c.args.self.now.better.now c.args.causes.now c.args.opening.now.selector
    c.args.opening.now.scope.items c.args.budget.now.limit f
    (record { old = c.args.self.now.solver; new = c.try_for.new.self.solver; was = c.args.budget.now; now = c.try_for.new.budget })
    c.args.self.now.cores c.args.opening.now.evidence refl (g.L.Report.lines c.args.report.now) (g.L.Report.lines c.try_for.new.report)
    o place c.args.fact asked.below asked.member asked.uncut c.in_default.ensures.exact.0 c.in_default.ensures.exact.1 asked.unsettled
    None (lines_of (try_of c.args.self.now.better.now c.args.self.now.conflicts.now c.args.opening.now.selector c.args.opening.now.scope.items
    c.args.self.now.cores (aim.WithoutFact c.args.fact)) c.in_ok-how.ensures.tried.entries c.in_ok-how.ensures.tried.last)
    (tries_break (try_of c.args.self.now.better.now c.args.self.now.conflicts.now c.args.opening.now.selector c.args.opening.now.scope.items
    c.args.self.now.cores (aim.WithoutFact c.args.fact))
    (record { old = c.args.self.now.solver; new = c.try_for.new.self.solver; was = c.args.budget.now; now = c.try_for.new.budget })
    c.args.causes.now c.args.opening.now.evidence c.try_for.new.opening.evidence (g.L.Report.lines c.args.report.now)
    (g.L.Report.lines c.try_for.new.report) c.in_ok-how.how c.in_ok-how.ensures.tried) c.in_ok-how.ensures.tried.told))

pub returns-clause-follows : goal.returns-clause-follows
returns-clause-follows g c w more f place asked o =
    subst (λ (n : ℕ). GoesOn w more c.try_for.new.self.solver n (AtIar c.try_for.new.budget.used) c.see_iar.new.self
    (g.L.Report.lines c.args.report.now) (g.L.Report.lines c.try_for.new.report)) (sym c.in_ok-how.ensures.counted)
    (fact_follows w more c.args.self.now.conflicts.now c.args.self.now.better.now c.args.causes.now c.args.opening.now.selector
    c.args.opening.now.scope.items c.args.budget.now.limit f
    (record { old = c.args.self.now.solver; new = c.try_for.new.self.solver; was = c.args.budget.now; now = c.try_for.new.budget })
    c.args.self.now.cores c.args.opening.now.evidence refl (g.L.Report.lines c.args.report.now) (g.L.Report.lines c.try_for.new.report)
    o place c.args.fact asked.below asked.member asked.uncut c.in_default.ensures.exact.0 c.in_default.ensures.exact.1 asked.unsettled
    c.try_for.new.opening.evidence c.see_iar.new.self c.in_ok-how.how c.in_ok-how.ensures.tried c.in_ok-see_iar.ensures.exact)

pub returns-clause-seen : goal.returns-clause-seen
returns-clause-seen g c place asked = fact_seen
    (try_of c.args.self.now.better.now c.args.self.now.conflicts.now c.args.opening.now.selector c.args.opening.now.scope.items
    c.args.self.now.cores (aim.WithoutFact c.args.fact))
    (record { old = c.args.self.now.solver; new = c.try_for.new.self.solver; was = c.args.budget.now; now = c.try_for.new.budget })
    c.args.causes.now place c.args.fact refl asked.below asked.member c.args.opening.now.evidence asked.all (g.L.Report.lines c.args.report.now)
    (g.L.Report.lines c.try_for.new.report) c.try_for.new.opening.evidence c.see_iar.new.self c.in_ok-how.how c.in_ok-how.ensures.tried
    c.in_ok-see_iar.ensures.exact

pub returns-clause-variables : goal.returns-clause-variables
returns-clause-variables g c = tries_variables _ _ _ _ _ _ _ _ c.in_ok-how.ensures.tried
