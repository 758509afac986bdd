use Rattle.std.proofs.Common.{refl}
use Rattle.report_text.specs.LineBytes.{line_kept}
use Rattle.report_text.proofs.ToldFacts.{told-nothing}
use Rattle.report_text.proofs.line_sink.LineSink.new.Goals as goal

pub returns-clause-lines : goal.returns-clause-lines
unfolding line_kept
returns-clause-lines g c = refl

pub returns-clause-torn : goal.returns-clause-torn
unfolding line_kept
returns-clause-torn g c = refl

pub returns-clause-no_lines : goal.returns-clause-no_lines
unfolding line_kept
returns-clause-no_lines g c = told-nothing (g.O.Sink.written c.args.sink.now)
