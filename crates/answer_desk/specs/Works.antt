-- The desk of a work, between two answers.
use Rattle.std.specs.Prelude.{◌-◌, false}
use Rattle.answer_desk.specs.declared.work.Work.{Work}
use Rattle.answer_desk.specs.Desks.{DeskState, learned_in}

-- its selectors are the variables behind the facts
abbrev pub desk_of : Work → DeskState
desk_of work = record {
  conflicts = work.conflicts.now;
  better = work.better.now;
  plan = work.plan;
  selectors = work.solver.variables - work.conflicts.now.facts;
  learned = learned_in work.solver.live;
  answers = work.answers;
  clauses = work.solver.next;
  cores = work.cores;
  failed = false;
}
