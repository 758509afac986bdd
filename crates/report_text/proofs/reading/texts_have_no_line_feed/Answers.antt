use Rattle.std.proofs.Common.{◌≡◌, ◌∙◌, sym, true, false}
use Rattle.std.proofs.lemmas.Cmp.{nat_eq_equiv}
use Rattle.std.proofs.lemmas.Map.Views.{list_any-from_Contains}
use Rattle.report_text.specs.Lines.{text_of}
use Rattle.report_text.proofs.LineFacts.{none-text_of}
use Rattle.report_text.proofs.reading.texts_have_no_line_feed.Goals as goal

pub returns : goal.returns
returns c = λ l right has.
    let both : true ≡ false = sym (list_any-from_Contains nat_eq_equiv 10 (text_of l) has) ∙ none-text_of l right in
    cc both
