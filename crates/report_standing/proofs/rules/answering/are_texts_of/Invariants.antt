use Rattle.std.proofs.Common.{◌≡◌, ℕ, ◌<◌, get_or, Some}
use Rattle.std.specs.Prelude.{slice_get, map, string_bytes, []}
use Rattle.report_standing.proofs.rules.answering.are_texts_of.Given as goal

abbrev pub invariant-loop-place : goal.invariant-loop-place
invariant-loop-place l = (k : ℕ) → k < l.place
    → slice_get l.individuals (get_or l.tuple k 0) ≡ Some (get_or (map string_bytes l.texts) k [])
