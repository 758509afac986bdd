use Rattle.std.proofs.Common.{rules, ◌≡◌, List, ℕ, Contains, OnErr, Result, Ok, Err, refl, sym, subst}
use Rattle.report_text.specs.declared.line.How.{How}
use Rattle.report_text.specs.declared.line.How.TheVariants as how
use Rattle.answer_evidence.specs.declared.evidence.Evidence.{Evidence}
use Rattle.answer_desk.specs.Following.{AtBrave, FollowsOpen, CauseGoesOn, SeesBrave, StopsAfter}
use Rattle.answer_desk.specs.Frames.{ForEachFrame}
use Rattle.answer_desk.proofs.FollowingAskLemmas.{tries_variables}
use Rattle.answer_desk.proofs.FollowingCallLemmas.{cause_follows, cause_stops}
use Rattle.answer_desk.proofs.work.Work.ask_cause.Goals as goal

on_err : {T E : Type 0} (r : Result T E) (P : Type 0) → P → OnErr r P
on_err (Ok v) P p = tt
on_err (Err e) P p = p

sees_same : (h : How) → (h ≡ how.Spent → ⊥) → (e : Evidence) → SeesBrave h e e
sees_same how.Model other e = refl
sees_same how.Refuted other e = refl
sees_same how.Spent other e = absurd (other refl)

pub returns-in_err-how-clause-stops : goal.returns-in_err-how-clause-stops
returns-in_err-how-clause-stops g c = on_err c.from_residual.result
    (ForEachFrame c.args.self.now.conflicts.now c.args.self.now.better.now c.args.causes.now c.args.opening.now c.args.budget.now.limit
    (λ w more. (done : List (List ℕ)) → FollowsOpen w more c.args.self.now.solver c.args.self.now.cores (AtBrave done c.args.budget.now.used)
    c.args.opening.now.evidence → ¬ Contains done c.args.cause.now
    → StopsAfter w more (g.L.Report.lines c.args.report.now) (g.L.Report.lines c.try_for.new.report) (g.L.Report.torn c.try_for.new.report)))
    (λ w more f done o fresh.
    let (added, breaks, gets) = c.in_err-how.ensures.broken in
    cause_stops w more c.args.self.now.conflicts.now c.args.self.now.better.now c.args.causes.now c.args.opening.now.selector
    c.args.opening.now.scope.items c.args.budget.now.limit f
    (record { old = c.args.self.now.solver; new = c.try_for.new.self.solver; was = c.args.budget.now; now = c.try_for.new.budget })
    c.args.self.now.cores c.args.opening.now.evidence refl (g.L.Report.lines c.args.report.now) (g.L.Report.lines c.try_for.new.report)
    done o c.args.cause c.requires.over fresh (g.L.Report.torn c.try_for.new.report) added breaks gets)

pub returns-then-eq-clause-follows : goal.returns-then-eq-clause-follows
returns-then-eq-clause-follows g c w more f done o fresh =
    let same : c.in_ok-how.how ≡ how.Spent = search rules in
    subst (λ (n : ℕ). CauseGoesOn w more c.try_for.new.self.solver n done c.args.cause.now c.try_for.new.budget.used c.see_brave_spent.new.self
    (g.L.Report.lines c.args.report.now) (g.L.Report.lines c.try_for.new.report) c.in_ok-how.how) (sym c.in_ok-how.ensures.counted)
    (cause_follows w more c.args.self.now.conflicts.now c.args.self.now.better.now c.args.causes.now c.args.opening.now.selector
    c.args.opening.now.scope.items c.args.budget.now.limit f
    (record { old = c.args.self.now.solver; new = c.try_for.new.self.solver; was = c.args.budget.now; now = c.try_for.new.budget })
    c.args.self.now.cores c.args.opening.now.evidence refl (g.L.Report.lines c.args.report.now) (g.L.Report.lines c.try_for.new.report)
    done o c.args.cause c.requires.over fresh c.try_for.new.opening.evidence c.see_brave_spent.new.self c.in_ok-how.how c.in_ok-how.ensures.tried
    (subst (λ (h : How). SeesBrave h c.try_for.new.opening.evidence c.see_brave_spent.new.self) (sym same) c.see_brave_spent.ensures.exact))

pub returns-else-eq-clause-follows : goal.returns-else-eq-clause-follows
returns-else-eq-clause-follows g c w more f done o fresh =
    let other : c.in_ok-how.how ≡ how.Spent → ⊥ = search rules in
    subst (λ (n : ℕ). CauseGoesOn w more c.try_for.new.self.solver n done c.args.cause.now c.try_for.new.budget.used c.try_for.new.opening.evidence
    (g.L.Report.lines c.args.report.now) (g.L.Report.lines c.try_for.new.report) c.in_ok-how.how) (sym c.in_ok-how.ensures.counted)
    (cause_follows w more c.args.self.now.conflicts.now c.args.self.now.better.now c.args.causes.now c.args.opening.now.selector
    c.args.opening.now.scope.items c.args.budget.now.limit f
    (record { old = c.args.self.now.solver; new = c.try_for.new.self.solver; was = c.args.budget.now; now = c.try_for.new.budget })
    c.args.self.now.cores c.args.opening.now.evidence refl (g.L.Report.lines c.args.report.now) (g.L.Report.lines c.try_for.new.report)
    done o c.args.cause c.requires.over fresh c.try_for.new.opening.evidence c.try_for.new.opening.evidence c.in_ok-how.how c.in_ok-how.ensures.tried
    (sees_same c.in_ok-how.how other c.try_for.new.opening.evidence))

pub returns-then-eq-clause-variables : goal.returns-then-eq-clause-variables
returns-then-eq-clause-variables g c = tries_variables _ _ _ _ _ _ _ _ c.in_ok-how.ensures.tried

pub returns-else-eq-clause-variables : goal.returns-else-eq-clause-variables
returns-else-eq-clause-variables g c = tries_variables _ _ _ _ _ _ _ _ c.in_ok-how.ensures.tried
