use Rattle.report_text.proofs.ToldFacts.{told-exactly}
use Rattle.report_text.proofs.line_sink.bytes_tell_their_lines.Goals as goal

pub returns : goal.returns
returns c = told-exactly
