use Rattle.report_text.proofs.LineFacts.{equal_texts}
use Rattle.report_text.proofs.reading.equal_texts_are_of_equal_lines.Goals as goal

pub returns : goal.returns
returns c = equal_texts
