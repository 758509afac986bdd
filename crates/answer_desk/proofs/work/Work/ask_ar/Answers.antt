use Rattle.std.proofs.Common.{rules, ◌≡◌, List, ℕ, [], length, refl, sym, subst, ap}
use Rattle.cdcl_core.specs.declared.outcome.Budget.{Budget}
use Rattle.report_text.specs.declared.line.How.{How}
use Rattle.report_text.specs.declared.line.How.TheVariants as how
use Rattle.report_text.specs.declared.line.Question.TheVariants as question
use Rattle.answer_evidence.specs.declared.evidence.Evidence.{Evidence}
use Rattle.answer_desk.specs.Following.{AtIar, AtEnd, FollowsOpen, GoesOn, StopsAfter, IarIsOver, SeesAr}
use Rattle.answer_desk.specs.Frames.{ForEachFrame}
use Rattle.answer_evidence.specs.declared.opening.Opening.{Opening}
use Rattle.answer_desk.specs.Openings.{IsOpen}
use Rattle.answer_desk.proofs.OpenLemmas.{IsOpen-seen}
use Rattle.answer_evidence.specs.Shown.{is_undecided, verdict_in}
use Rattle.answer_desk.proofs.FollowingAskLemmas.{adds_none, frame_on, same_opening, settled_by, unsettled_by, sees_ar_same, tries_variables}
use Rattle.answer_desk.proofs.FollowingCallLemmas.{ar_follows, ar_stops}
use Rattle.answer_desk.proofs.FollowingStepLemmas.{ar_settled}
use Rattle.answer_desk.proofs.TryLemmas.{on_err}
use Rattle.answer_desk.proofs.work.Work.ask_ar.Goals as goal

pub returns-then-is_settled-clause-follows : goal.returns-then-is_settled-clause-follows
returns-then-is_settled-clause-follows g c w more f used o iar = (
  [],
  ar_settled w more c.args.self.now.solver c.args.self.now.cores used c.args.opening.now.evidence o
      (subst (λ (cs : List (List ℕ)). IarIsOver cs c.args.opening.now.evidence) (sym f.causes_are) iar)
      (settled_by (is_undecided (verdict_in c.args.opening.now.evidence question.Ar)) c.is_settled.result c.is_settled.ensures c.if-is_settled.true),
  adds_none (g.L.Report.lines c.args.report.now),
)

pub returns-in_err-how-clause-stops : goal.returns-in_err-how-clause-stops
returns-in_err-how-clause-stops g c =
    on_err (ForEachFrame c.args.self.now.conflicts.now c.args.self.now.better.now c.args.causes.now c.args.opening.now c.args.self.now.plan.budget
    (λ w more. (used : ℕ) → FollowsOpen w more c.args.self.now.solver c.args.self.now.cores (AtIar used) c.args.opening.now.evidence
    → IarIsOver c.args.causes.now c.args.opening.now.evidence
    → StopsAfter w more (g.L.Report.lines c.args.report.now) (g.L.Report.lines c.try_for.new.report) (g.L.Report.torn c.try_for.new.report)))
    c.from_residual.result
    (λ w more f used o iar.
    let (added, breaks, gets) = c.in_err-how.ensures.broken in
    ar_stops w more c.args.self.now.conflicts.now c.args.self.now.better.now c.as_slice.result.now c.args.opening.now.selector
    c.args.opening.now.scope.items c.args.self.now.plan.budget
    (frame_on w c.args.self.now c.args.self.now c.args.causes.now c.as_slice.result.now c.args.opening.now c.args.opening.now
    c.args.self.now.plan.budget c.args.self.now.plan.budget refl c.as_slice.ensures.lent (same_opening c.args.opening.now) refl f)
    (record { old = c.args.self.now.solver; new = c.try_for.new.self.solver; was = c.whole_budget-budget.result; now = c.try_for.new.budget })
    c.args.self.now.cores c.args.opening.now.evidence (ap (λ (b : Budget). b.limit) c.whole_budget-budget.ensures)
    (g.L.Report.lines c.args.report.now) (g.L.Report.lines c.try_for.new.report) used o
    (subst (λ (cs : List (List ℕ)). IarIsOver cs c.args.opening.now.evidence) (sym c.as_slice.ensures.lent) iar)
    (unsettled_by (is_undecided (verdict_in c.args.opening.now.evidence question.Ar)) c.is_settled.result c.is_settled.ensures c.if-is_settled.false)
    (ap (λ (b : Budget). b.used) c.whole_budget-budget.ensures) c.args.causes (sym c.as_slice.ensures.lent)
    (g.L.Report.torn c.try_for.new.report) added breaks gets)

pub returns-then-eq-clause-follows : goal.returns-then-eq-clause-follows
returns-then-eq-clause-follows g c w more f used o iar =
    let same : c.in_ok-how.how ≡ how.Refuted = search rules in
    subst (λ (n : ℕ). GoesOn w more c.try_for.new.self.solver n AtEnd c.see_ar_refuted.new.self (g.L.Report.lines c.args.report.now)
    (g.L.Report.lines c.try_for.new.report)) (sym c.in_ok-how.ensures.counted)
    (ar_follows w more c.args.self.now.conflicts.now c.args.self.now.better.now c.as_slice.result.now c.args.opening.now.selector
    c.args.opening.now.scope.items c.args.self.now.plan.budget
    (frame_on w c.args.self.now c.args.self.now c.args.causes.now c.as_slice.result.now c.args.opening.now c.args.opening.now
    c.args.self.now.plan.budget c.args.self.now.plan.budget refl c.as_slice.ensures.lent (same_opening c.args.opening.now) refl f)
    (record { old = c.args.self.now.solver; new = c.try_for.new.self.solver; was = c.whole_budget-budget.result; now = c.try_for.new.budget })
    c.args.self.now.cores c.args.opening.now.evidence (ap (λ (b : Budget). b.limit) c.whole_budget-budget.ensures)
    (g.L.Report.lines c.args.report.now) (g.L.Report.lines c.try_for.new.report) used o
    (subst (λ (cs : List (List ℕ)). IarIsOver cs c.args.opening.now.evidence) (sym c.as_slice.ensures.lent) iar)
    (unsettled_by (is_undecided (verdict_in c.args.opening.now.evidence question.Ar)) c.is_settled.result c.is_settled.ensures c.if-is_settled.false)
    (ap (λ (b : Budget). b.used) c.whole_budget-budget.ensures) c.args.causes (sym c.as_slice.ensures.lent)
    c.try_for.new.opening.evidence c.see_ar_refuted.new.self c.in_ok-how.how c.in_ok-how.ensures.tried
    (subst (λ (h : How). SeesAr h c.try_for.new.opening.evidence c.see_ar_refuted.new.self) (sym same) c.see_ar_refuted.ensures.exact))

pub returns-else-eq-clause-follows : goal.returns-else-eq-clause-follows
returns-else-eq-clause-follows g c w more f used o iar =
    let other : c.in_ok-how.how ≡ how.Refuted → ⊥ = search rules in
    subst (λ (n : ℕ). GoesOn w more c.try_for.new.self.solver n AtEnd c.try_for.new.opening.evidence (g.L.Report.lines c.args.report.now)
    (g.L.Report.lines c.try_for.new.report)) (sym c.in_ok-how.ensures.counted)
    (ar_follows w more c.args.self.now.conflicts.now c.args.self.now.better.now c.as_slice.result.now c.args.opening.now.selector
    c.args.opening.now.scope.items c.args.self.now.plan.budget
    (frame_on w c.args.self.now c.args.self.now c.args.causes.now c.as_slice.result.now c.args.opening.now c.args.opening.now
    c.args.self.now.plan.budget c.args.self.now.plan.budget refl c.as_slice.ensures.lent (same_opening c.args.opening.now) refl f)
    (record { old = c.args.self.now.solver; new = c.try_for.new.self.solver; was = c.whole_budget-budget.result; now = c.try_for.new.budget })
    c.args.self.now.cores c.args.opening.now.evidence (ap (λ (b : Budget). b.limit) c.whole_budget-budget.ensures)
    (g.L.Report.lines c.args.report.now) (g.L.Report.lines c.try_for.new.report) used o
    (subst (λ (cs : List (List ℕ)). IarIsOver cs c.args.opening.now.evidence) (sym c.as_slice.ensures.lent) iar)
    (unsettled_by (is_undecided (verdict_in c.args.opening.now.evidence question.Ar)) c.is_settled.result c.is_settled.ensures c.if-is_settled.false)
    (ap (λ (b : Budget). b.used) c.whole_budget-budget.ensures) c.args.causes (sym c.as_slice.ensures.lent)
    c.try_for.new.opening.evidence c.try_for.new.opening.evidence c.in_ok-how.how c.in_ok-how.ensures.tried
    (sees_ar_same c.in_ok-how.how other c.try_for.new.opening.evidence))

pub try_for-requires-clause-open : goal.try_for-requires-clause-open
try_for-requires-clause-open g c =
    subst (λ (cs : List (List ℕ)). IsOpen c.args.self.now.conflicts.now c.args.self.now.better.now c.args.self.now.solver c.args.opening.now cs)
    (sym c.as_slice.ensures.lent) c.requires.open

pub returns-then-eq-clause-still_open : goal.returns-then-eq-clause-still_open
returns-then-eq-clause-still_open g c =
    let last : Opening = record c.try_for.new.opening { evidence = c.see_ar_refuted.new.self } in
    subst (λ (cs : List (List ℕ)). IsOpen c.try_for.new.self.conflicts.now c.try_for.new.self.better.now c.try_for.new.self.solver last cs)
    c.as_slice.ensures.lent
    (IsOpen-seen _ _ _ c.try_for.new.opening last c.as_slice.result.now c.in_ok-how.ensures.still_open
    (record { selector = refl; scope = refl; first_core = refl })
    (ap (λ (e : Evidence). length e.cut.items) c.see_ar_refuted.ensures.exact))

pub returns-then-eq-clause-variables : goal.returns-then-eq-clause-variables
returns-then-eq-clause-variables g c = tries_variables _ _ _ _ _ _ _ _ c.in_ok-how.ensures.tried

pub returns-else-eq-clause-variables : goal.returns-else-eq-clause-variables
returns-else-eq-clause-variables g c = tries_variables _ _ _ _ _ _ _ _ c.in_ok-how.ensures.tried
