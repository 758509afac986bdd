use Rattle.std.proofs.Common.{◌≡◌, ◌∙◌, ap, sym, ◌++◌, ◌∷◌, [], length, string_bytes}
use Rattle.report_text.specs.Lines.{text_of}
use Rattle.report_text.proofs.ToldFacts.{AddsLine-written, StayTold-part, text_without, line_kept-text}
use Rattle.report_text.proofs.line_sink.LineSinkReport.line.Goals as goal

pub returns-in-Ok-clause-added : goal.returns-in-Ok-clause-added
returns-in-Ok-clause-added g c =
    let bytes : c.as_bytes.result.now ≡ text_of c.args.line.now ++ 10 ∷ [] = c.as_bytes.ensures.value ∙ c.in_ok-make_bytes_of.ensures.exact in
    rw c.requires.none_torn (AddsLine-written _ _ c.args.line.now c.as_bytes.result.now c.requires.form bytes c.in-Ok.ensures.exact)

pub returns-in-Err-clause-torn : goal.returns-in-Err-clause-torn
returns-in-Err-clause-torn g c = line_kept-text c.replace.result c.args.line.now c.requires.form
    (ap string_bytes c.replace.ensures.value
    ∙ text_without _ _ (text_of c.args.line.now) _ c.in_ok-make_bytes_of.ensures.exact (sym c.as_bytes.ensures.len ∙ ap length c.as_bytes.ensures.value)
    c.pop.ensures.ascii_bytes)

pub returns-in-Err-clause-unchanged : goal.returns-in-Err-clause-unchanged
returns-in-Err-clause-unchanged g c =
    let torn = returns-in-Err-clause-torn g c in
    let bytes : c.as_bytes.result.now ≡ text_of c.args.line.now ++ 10 ∷ [] = c.as_bytes.ensures.value ∙ c.in_ok-make_bytes_of.ensures.exact in
    rw (c.requires.none_torn, torn) (StayTold-part _ _ c.args.line.now c.as_bytes.result.now c.requires.form bytes c.in-Err.ensures.part)
