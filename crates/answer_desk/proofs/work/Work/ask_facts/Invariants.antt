use Rattle.std.proofs.Common.{◌≡◌, ◌<◌, ℕ, Contains, get_or}
use Rattle.std.specs.Prelude.{None}
use Rattle.answer_desk.specs.Asking.{IsCauseAt}
use Rattle.answer_desk.specs.Following.{IsFrameFor}
use Rattle.answer_desk.specs.Openings.{IsOpen, IsSameOpening, Spends}
use Rattle.answer_desk.proofs.FollowingAskLemmas.{FactsSoFar, iar_at}
use Rattle.answer_desk.proofs.work.Work.ask_facts.Given as goal

abbrev pub invariant-loop-fact : goal.invariant-loop-fact
invariant-loop-fact g l = record {
  still : IsOpen l.self.conflicts.now l.self.better.now l.self.solver l.opening l.causes;
  same : IsSameOpening l.initial.opening l.opening;
  spends : Spends l.initial.self.solver l.self.solver l.initial.budget l.budget;
  only : l.self ≡ record l.initial.self { solver = l.self.solver; cores = l.self.cores };
  cores : l.self.cores ≡ l.initial.self.cores;
  variables : l.self.solver.variables ≡ l.initial.self.solver.variables;
  none_torn : g.L.Report.torn l.report ≡ None;
  target : g.L.Report.target l.report ≡ g.L.Report.target l.initial.report;
  faults : g.L.Report.faults l.report ≡ g.L.Report.faults l.initial.report;
  follows : (place : ℕ) → IsCauseAt l.causes l.initial.opening.evidence place l.facts → FactsSoFar l.causes place
      (λ w. IsFrameFor w l.initial.self.conflicts.now l.initial.self.better.now l.causes l.initial.opening.selector l.initial.opening.scope.items
      l.initial.budget.limit)
      (iar_at l.initial.self.solver l.initial.self.cores l.initial.budget.used l.initial.opening.evidence (g.L.Report.lines l.initial.report))
      (iar_at l.self.solver l.self.cores l.budget.used l.opening.evidence (g.L.Report.lines l.report));
  refuted : (place : ℕ) → IsCauseAt l.causes l.initial.opening.evidence place l.facts
      → (k : ℕ) → k < l.fact-index → Contains l.opening.evidence.refuted (get_or l.facts k 0);
}
