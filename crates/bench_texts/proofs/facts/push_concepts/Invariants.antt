-- The concepts before are appended.
use Rattle.std.proofs.Common.{◌≡◌, ◌++◌, take, string_bytes}
use Rattle.std.specs.List.{flat_map}
use Rattle.bench_texts.specs.Texts.{holds}
use Rattle.bench_texts.proofs.facts.push_concepts.Given as goal

abbrev pub invariant-loop-concept : goal.invariant-loop-concept
invariant-loop-concept l =
    string_bytes l.text ≡ string_bytes l.initial.text ++ flat_map (λ concept. holds concept l.number) (take l.concept-index l.concepts)
