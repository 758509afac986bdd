use Rattle.std.proofs.Common.{◌∙◌, sym}
use Rattle.std.proofs.lemmas.Slice.Eq.{bytes_eq-Decides}
use Rattle.report_text.specs.Lines.{text_of}
use Rattle.report_text.proofs.reading.read_at_once.Goals as goal

pub returns-then-same : goal.returns-then-same
returns-then-same c =
    let equal = (bytes_eq-Decides (text_of c.in-Some.line) c.args.bytes.now).0 (sym c.in_ok-same.ensures.exact ∙ c.if-same.true) in
    record { exact = (rw c.in-Some.is at c.in_ok-line.ensures.right, sym equal) }
