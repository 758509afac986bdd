use Rattle.answer_desk.proofs.TryLemmas.{on_err, part_none, part_core}
use Rattle.answer_desk.proofs.work.Work.tell_core.Goals as goal

pub returns-in_err-tell_core_line-clause-broken : goal.returns-in_err-tell_core_line-clause-broken
returns-in_err-tell_core_line-clause-broken g c =
    on_err _ _ (part_none c.args.self.now.cores c.args.core.kept c.args.core.dropped _ _ _ c.tell_core_line.result _
    c.in_err-tell_core_line.was c.tell_core_line.ensures.unchanged c.tell_core_line.ensures.torn)

pub returns-clause-broken : goal.returns-clause-broken
returns-clause-broken g c = part_core c.args.self.now.cores c.args.core.kept c.args.core.dropped _ _ _ _ c.tell_model.result
    c.in_ok-tell_core_line.ensures.added c.tell_model.ensures.unchanged c.tell_model.ensures.torn
