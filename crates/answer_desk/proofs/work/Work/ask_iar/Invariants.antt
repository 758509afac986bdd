use Rattle.std.proofs.Common.{◌≡◌, ◌≤◌, ◌+◌}
use Rattle.std.specs.Prelude.{None}
use Rattle.answer_desk.specs.Frames.{ForEachFrame}
use Rattle.answer_desk.specs.Openings.{IsOpen, IsSameOpening, Spends}
use Rattle.answer_desk.proofs.FollowingAskLemmas.{IsAt, IarSoFar, iar_at}
use Rattle.answer_desk.proofs.work.Work.ask_iar.Given as goal

abbrev pub invariant-loop-place : goal.invariant-loop-place
invariant-loop-place g l = record {
  still : IsOpen l.self.conflicts.now l.self.better.now l.self.solver l.opening l.causes;
  same : IsSameOpening l.initial.opening l.opening;
  spends : Spends l.initial.self.solver l.self.solver l.initial.budget l.budget;
  only : l.self ≡ record l.initial.self { solver = l.self.solver; cores = l.self.cores };
  cores : l.self.cores ≤ l.initial.self.cores + l.place;
  variables : l.self.solver.variables ≡ l.initial.self.solver.variables;
  none_torn : g.L.Report.torn l.report ≡ None;
  target : g.L.Report.target l.report ≡ g.L.Report.target l.initial.report;
  faults : g.L.Report.faults l.report ≡ g.L.Report.faults l.initial.report;
  follows : ForEachFrame l.initial.self.conflicts.now l.initial.self.better.now l.causes l.initial.opening l.initial.self.plan.budget
      (λ w more. IsAt w more (iar_at l.initial.self.solver l.initial.self.cores 0 l.initial.opening.evidence (g.L.Report.lines l.initial.report))
      → IarSoFar w more l.causes l.place
      (iar_at l.initial.self.solver l.initial.self.cores 0 l.initial.opening.evidence (g.L.Report.lines l.initial.report))
      (iar_at l.self.solver l.self.cores l.budget.used l.opening.evidence (g.L.Report.lines l.report)));
}
