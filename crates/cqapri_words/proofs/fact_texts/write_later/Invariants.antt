-- The facts before the number are written.
use Rattle.std.proofs.Common.{◌≡◌, take}
use Rattle.cq_io.specs.Writing.{appended}
use Rattle.cqapri_words.specs.Cycles.{later_text}
use Rattle.cqapri_words.proofs.fact_texts.write_later.Given as goal

abbrev pub invariant-loop-number : goal.invariant-loop-number
invariant-loop-number g l =
    (g.S.Sink.written l.sink ≡ appended (g.S.Sink.written l.initial.sink) (later_text l.vocab l.facts (take l.number-index l.numbers)))
    × (g.S.Sink.faults l.sink ≡ g.S.Sink.faults l.initial.sink)
