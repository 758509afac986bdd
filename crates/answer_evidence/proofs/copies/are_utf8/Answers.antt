use Rattle.std.proofs.Common.{ℕ, List, All, IsUtf8, string_bytes, get_or, subst}
use Rattle.std.proofs.lemmas.List.Elements.{All-map}
use Rattle.std.proofs.lemmas.Str.{IsUtf8-string_bytes}
use Rattle.answer_evidence.proofs.copies.are_utf8.Goals as goal

pub returns : goal.returns
returns c = subst (λ (ts : List (List ℕ)). All IsUtf8 ts) c.as_slice-texts.ensures.lent
    (All-map IsUtf8 string_bytes c.as_slice-texts.result.now (λ k d l. IsUtf8-string_bytes (get_or c.as_slice-texts.result.now k d)))
