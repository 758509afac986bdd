use Rattle.std.proofs.Common.{◌∙◌}
use Rattle.cqapri_cli.proofs.BenchLemmas.{held_is, never_of}
use Rattle.cqapri_cli.proofs.bench_job.shelf_of.Goals as goal

pub returns-clause-holds : goal.returns-clause-holds
returns-clause-holds c = c.in_ok-put_texts.ensures.holds ∙ held_is c.args.size c.in_ok-texts.texts c.in_ok-texts.ensures.exact

pub returns-clause-never : goal.returns-clause-never
returns-clause-never c = never_of c.new-shelf.result c.put_texts.new.shelf c.new-shelf.ensures c.in_ok-put_texts.ensures.nothing_else
