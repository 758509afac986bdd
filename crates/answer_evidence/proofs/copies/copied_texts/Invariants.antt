use Rattle.std.proofs.Common.{◌≡◌, map, take, string_bytes}
use Rattle.answer_evidence.proofs.copies.copied_texts.Given as goal

abbrev pub invariant-loop-text : goal.invariant-loop-text
invariant-loop-text l = l.copies ≡ map string_bytes (take l.text-index l.text-items)
