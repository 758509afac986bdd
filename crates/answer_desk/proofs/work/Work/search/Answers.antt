use Rattle.std.proofs.Common.{ℕ, List, sym, subst, rules}
use Rattle.cdcl_core.specs.Solving.{AreAskable, Learns, Ends, cleared}
use Rattle.answer_evidence.specs.Logging.{AddsLearns}
use Rattle.answer_desk.specs.Trying.{BreaksSearch}
use Rattle.answer_desk.proofs.SearchLogLemmas.{search_adds, search_breaks}
use Rattle.answer_desk.proofs.SolverLemmas.{IsOpen-learned, Spends-learned}
use Rattle.answer_desk.proofs.TryLemmas.{on_err}
use Rattle.answer_desk.proofs.work.Work.search.Goals as goal

pub solve-solved-requires-clause-askable : goal.solve-solved-requires-clause-askable
solve-solved-requires-clause-askable g c =
    subst (λ (vs : List ℕ). AreAskable c.args.self.now.solver vs c.args.assume.now) (sym c.as_slice.ensures.value) (record {
      ascending = c.requires.open.ascending;
      in_range = c.requires.open.in_range;
      assumed = c.requires.inside;
      separates = c.requires.open.separates;
    })

pub returns-in_err-solved-clause-learned : goal.returns-in_err-solved-clause-learned
returns-in_err-solved-clause-learned g c =
    let l = c.solve-solved.ensures.learned in
    let lines = g.L.Report.lines in
    let start = c.args.report.now in
    let added = search_adds lines g.L.Report.torn g.L.Report.faults c.solve-solved.new.self c.as_slice.result.now c.args.assume.now
    c.solve-solved.new.budget start _ c.solve-solved.new.log.report.now l.0 c.solve-solved.result c.new-log.ensures.report c.requires.none_torn
    c.solve-solved.ensures.leads.0 l.2 in (
      l.0,
      subst (λ (vs : List ℕ). Learns (cleared c.args.self.now.solver) (cleared c.solve-solved.new.self) vs c.args.assume.now c.args.budget.now
          c.solve-solved.new.budget l.0) c.as_slice.ensures.value l.1,
      subst (λ (r : _). AddsLearns (lines start) (lines r) l.0) (search rules)
          (subst (λ (r : _). AddsLearns (lines start) (lines r) l.0) (sym c.into_report-report.ensures.report) added),
    )

pub returns-in_err-solved-clause-broken : goal.returns-in_err-solved-clause-broken
returns-in_err-solved-clause-broken g c =
    let l = c.solve-solved.ensures.learned in
    let lines = g.L.Report.lines in
    let torn = g.L.Report.torn in
    let start = c.args.report.now in
    let breaks = search_breaks lines torn g.L.Report.faults c.solve-solved.new.self c.as_slice.result.now c.args.assume.now
    c.solve-solved.new.budget start _ c.solve-solved.new.log.report.now l.0 c.solve-solved.result c.new-log.ensures.report c.requires.none_torn
    c.solve-solved.ensures.leads.0 l.2 _ c.in_err-solved.was c.solve-solved.ensures.leads.3 in
    on_err _ _ (subst (λ (r : _). BreaksSearch c.solve-solved.new.self c.args.opening.now.scope.items c.args.assume.now c.solve-solved.new.budget
    (lines start) (torn r)) (search rules)
    (subst (λ (r : _). BreaksSearch c.solve-solved.new.self c.args.opening.now.scope.items c.args.assume.now c.solve-solved.new.budget
    (lines start) (torn r)) (sym c.into_report-report.ensures.report)
    (subst (λ (vs : List ℕ). BreaksSearch c.solve-solved.new.self vs c.args.assume.now c.solve-solved.new.budget (lines start)
    (torn c.solve-solved.new.log.report.now)) c.as_slice.ensures.value breaks)))

pub returns-in_err-solved-clause-still_open : goal.returns-in_err-solved-clause-still_open
returns-in_err-solved-clause-still_open g c =
    let l = c.solve-solved.ensures.learned in
    IsOpen-learned _ _ c.args.self.now.solver c.solve-solved.new.self c.args.opening.now c.args.causes.now c.args.assume.now c.args.budget.now
    c.solve-solved.new.budget l.0 c.requires.open
    (subst (λ (vs : List ℕ). Learns (cleared c.args.self.now.solver) (cleared c.solve-solved.new.self) vs c.args.assume.now c.args.budget.now
    c.solve-solved.new.budget l.0) c.as_slice.ensures.value l.1)

pub returns-in_err-solved-clause-spends : goal.returns-in_err-solved-clause-spends
returns-in_err-solved-clause-spends g c =
    let l = c.solve-solved.ensures.learned in
    Spends-learned c.args.self.now.solver c.solve-solved.new.self c.as_slice.result.now c.args.assume.now c.args.budget.now c.solve-solved.new.budget
    l.0 l.1

pub returns-clause-learned : goal.returns-clause-learned
returns-clause-learned g c =
    let l = c.solve-solved.ensures.learned in
    let lines = g.L.Report.lines in
    let start = c.args.report.now in
    let added = search_adds lines g.L.Report.torn g.L.Report.faults c.solve-solved.new.self c.as_slice.result.now c.args.assume.now
    c.solve-solved.new.budget start _ c.solve-solved.new.log.report.now l.0 c.solve-solved.result c.new-log.ensures.report c.requires.none_torn
    c.solve-solved.ensures.leads.0 l.2 in (
      l.0,
      subst (λ (vs : List ℕ). Learns (cleared c.args.self.now.solver) (cleared c.solve-solved.new.self) vs c.args.assume.now c.args.budget.now
          c.solve-solved.new.budget l.0) c.as_slice.ensures.value l.1,
      subst (λ (r : _). AddsLearns (lines start) (lines r) l.0) (search rules)
          (subst (λ (r : _). AddsLearns (lines start) (lines r) l.0) (sym c.into_report-report.ensures.report) added),
    )

pub returns-clause-ends : goal.returns-clause-ends
returns-clause-ends g c =
    subst (λ (vs : List ℕ). Ends c.solve-solved.new.self vs c.args.assume.now c.solve-solved.new.budget c.in_ok-solved.field-0)
    c.as_slice.ensures.value c.in_ok-solved.ensures.ends

pub returns-clause-still_open : goal.returns-clause-still_open
returns-clause-still_open g c =
    let l = c.solve-solved.ensures.learned in
    IsOpen-learned _ _ c.args.self.now.solver c.solve-solved.new.self c.args.opening.now c.args.causes.now c.args.assume.now c.args.budget.now
    c.solve-solved.new.budget l.0 c.requires.open
    (subst (λ (vs : List ℕ). Learns (cleared c.args.self.now.solver) (cleared c.solve-solved.new.self) vs c.args.assume.now c.args.budget.now
    c.solve-solved.new.budget l.0) c.as_slice.ensures.value l.1)

pub returns-clause-spends : goal.returns-clause-spends
returns-clause-spends g c =
    let l = c.solve-solved.ensures.learned in
    Spends-learned c.args.self.now.solver c.solve-solved.new.self c.as_slice.result.now c.args.assume.now c.args.budget.now c.solve-solved.new.budget
    l.0 l.1
