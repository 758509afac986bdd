use Rattle.cqapri_cli.proofs.BenchLemmas.{all_put, only_files}
use Rattle.cqapri_cli.proofs.bench_job.put_texts.Goals as goal

pub returns-clause-holds : goal.returns-clause-holds
returns-clause-holds c =
    rw (← c.as_bytes-4.ensures.value, ← c.as_bytes-3.ensures.value, ← c.as_bytes-2.ensures.value, ← c.as_bytes.ensures.value)
    (all_put c.args.shelf.now.files c.put.new.self.files c.put-2.new.self.files c.put-3.new.self.files c.put-4.new.self.files
    c.as_bytes-4.result.now c.as_bytes-3.result.now c.as_bytes-2.result.now c.as_bytes.result.now c.requires.empty
    c.in_ok-put.ensures.exact c.in_ok-put-2.ensures.exact c.in_ok-put-3.ensures.exact c.in_ok-put-4.ensures.exact)

pub returns-clause-nothing_else : goal.returns-clause-nothing_else
returns-clause-nothing_else c =
    only_files c.args.shelf.now c.put-3.new.self c.put-4.new.self
    (only_files c.args.shelf.now c.put-2.new.self c.put-3.new.self
    (only_files c.args.shelf.now c.put.new.self c.put-2.new.self c.in_ok-put.ensures.nothing_else c.in_ok-put-2.ensures.nothing_else)
    c.in_ok-put-3.ensures.nothing_else) c.in_ok-put-4.ensures.nothing_else
