use Rattle.cqapri_cli.proofs.CountLemmas.{never_failed}
use Rattle.cqapri_cli.proofs.counting.count_verdicts.Goals as goal

pub returns-clause-memory : goal.returns-clause-memory
returns-clause-memory c = never_failed c.write_lines.result c.write_lines.ensures.of_writing c.write_lines.ensures.fault
