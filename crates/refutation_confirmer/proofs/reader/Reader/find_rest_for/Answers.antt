use Rattle.std.proofs.Common.{refl}
use Rattle.refutation_confirmer.proofs.JudgedLemmas.{ready_ok}
use Rattle.refutation_confirmer.proofs.reader.Reader.find_rest_for.Goals as goal

pub returns-clause-ready : goal.returns-clause-ready
returns-clause-ready c = ready_ok c.find_rest.result c.find_rest.new.self c.args.line.now (c.if-not-is_behind_conflicts.ensures.exact.0 refl)
    c.find_rest.ensures.known
