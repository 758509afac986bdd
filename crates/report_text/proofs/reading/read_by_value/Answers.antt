use Rattle.std.proofs.Common.{◌≡◌, ◌∙◌, ap, sym, Some, None, true, false}
use Rattle.std.proofs.lemmas.Slice.Eq.{bytes_eq-Decides}
use Rattle.serde_json.specs.View.{view}
use Rattle.report_text.specs.Lines.{text_of, line_at}
use Rattle.report_text.specs.declared.reading.ReadRefusal.TheVariants as refusal
use Rattle.report_text.proofs.LineFacts.{IsWellFormed-line_at, line_at-read, not_refused}
use Rattle.report_text.proofs.reading.read_by_value.Goals as goal

pub returns-in-Err-clause-bad_line : goal.returns-in-Err-clause-bad_line
returns-in-Err-clause-bad_line c = λ e l right same.
    let bad : c.refusal_of.result ≡ refusal.BadLine = cc e in
    not_refused l c.args.bytes.now right same (c.in-Err.ensures.err (c.refusal_of.ensures.exact bad))

pub returns-in_default-clause-bad_line : goal.returns-in_default-clause-bad_line
returns-in_default-clause-bad_line c = λ e l right same.
    let found = line_at-read l c.args.bytes.now _ right same c.in-Ok.ensures.ok.1 in
    let none : None ≡ Some l = (rw c.in_default.is at c.in_ok-line.ensures.exact) ∙ found in
    cc none

pub returns-then-same-clause-exact : goal.returns-then-same-clause-exact
returns-then-same-clause-exact c =
    let found : line_at (view c.in-Ok.value) ≡ Some c.in-Some.line = sym (rw c.in-Some.is at c.in_ok-line.ensures.exact) in
    let equal = (bytes_eq-Decides (text_of c.in-Some.line) c.args.bytes.now).0 (sym c.in_ok-same.ensures.exact ∙ c.if-same.true) in
    (IsWellFormed-line_at (view c.in-Ok.value) c.in-Some.line found, sym equal)

pub returns-clause-bad_line : goal.returns-clause-bad_line
returns-clause-bad_line c = λ e l right same.
    let found = line_at-read l c.args.bytes.now _ right same c.in-Ok.ensures.ok.1 in
    let some : Some c.in-Some.line ≡ Some l = (rw c.in-Some.is at c.in_ok-line.ensures.exact) ∙ found in
    let line : c.in-Some.line ≡ l = cc some in
    let equal : text_of c.in-Some.line ≡ c.args.bytes.now = ap text_of line ∙ sym same in
    let both : false ≡ true = sym c.if-same.false ∙ c.in_ok-same.ensures.exact ∙ (bytes_eq-Decides (text_of c.in-Some.line) c.args.bytes.now).1 equal in
    cc both
