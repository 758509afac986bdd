use Rattle.std.proofs.Common.{◌≡◌, take}
use Rattle.std.specs.List.{flat_map}
use Rattle.cq_io.specs.Writing.{appended}
use Rattle.cqapri_words.proofs.pieces.write_pieces.Given as goal

abbrev pub invariant-loop-piece : goal.invariant-loop-piece
invariant-loop-piece g l =
    (g.S.Sink.written l.sink ≡ appended (g.S.Sink.written l.initial.sink) (flat_map (λ piece. piece.now) (take l.piece-index l.pieces)))
    × (g.S.Sink.faults l.sink ≡ g.S.Sink.faults l.initial.sink)
