use Rattle.cqapri_cli.specs.Bench.{counts_text}
use Rattle.cqapri_cli.proofs.StopLemmas.{OnErr-of, all_first}
use Rattle.cqapri_cli.proofs.counts_writer.write_counts.Goals as goal

pub returns-clause-part : goal.returns-clause-part
returns-clause-part g c =
    OnErr-of c.flush.result (all_first (g.O.Sink.written c.args.out.now) (g.O.Sink.written c.write_line.new.out) (g.O.Sink.written c.flush.new.self)
    (counts_text c.args.counts) c.in_ok-write_line.ensures.exact c.flush.ensures.same_bytes)
