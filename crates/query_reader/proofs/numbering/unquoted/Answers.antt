-- The text of a constant is UTF-8, so it is always given.
use Rattle.std.proofs.Common.{sym, ap, ◌∙◌, subst}
use Rattle.std.specs.Str.{IsUtf8}
use Rattle.query_reader.specs.Parts.{halved}
use Rattle.query_reader.proofs.Utf8Lemmas.{IsUtf8-halved}
use Rattle.query_reader.proofs.numbering.unquoted.Goals as goal

pub unwrap-requires : goal.unwrap-requires
unwrap-requires c =
    let text = IsUtf8-halved _ c.requires.written c.utf8.written in
    c.from_utf8.ensures.succeeds (subst IsUtf8 (sym (c.in_ok-bytes.ensures.exact ∙ ap halved c.as_bytes.ensures.value)) text)
