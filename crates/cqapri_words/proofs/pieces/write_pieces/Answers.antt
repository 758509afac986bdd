use Rattle.std.proofs.Common.{◌≡◌, refl, sym, ap, subst, ◌∙◌, ◌<◌, length, arith, take}
use Rattle.std.specs.List.{flat_map}
use Rattle.std.proofs.lemmas.List.{take_all}
use Rattle.cq_io.specs.Faults.{CountsFault}
use Rattle.cq_io.specs.Writing.{appended}
use Rattle.cqapri_words.proofs.PieceLemmas.{appended-nil, written_more, written_part, TellsFault-failed, OnErr-of}
use Rattle.cqapri_words.proofs.pieces.write_pieces.Goals as goal

pub loop-piece-init : goal.loop-piece-init
loop-piece-init g c = (sym (appended-nil _), refl)

pub returns-in_err-write_all-clause-part : goal.returns-in_err-write_all-clause-part
returns-in_err-write_all-clause-part g c =
    let w = c.in_err-write_all.ensures.part in
    let l : c.loop-piece.piece-index < length c.args.pieces.now = omega arith in
    OnErr-of c.from_residual.result (written_part (λ piece. piece.now) c.args.pieces.now c.loop-piece.piece-index _ l _ _ _ c.loop-piece.invariant.0 w.count
    w.part)

pub returns-in_err-write_all-clause-fault : goal.returns-in_err-write_all-clause-fault
returns-in_err-write_all-clause-fault g c =
    TellsFault-failed _ _ _ c.from_residual.ensures.0 (subst (λ n. CountsFault n (g.S.Sink.faults c.write_all.new.self)) c.loop-piece.invariant.1
    c.in_err-write_all.ensures.fault)

pub loop-piece-preserved : goal.loop-piece-preserved
loop-piece-preserved g c =
    let l : c.loop-piece.piece-index < length c.args.pieces.now = omega arith in (
      written_more (λ piece. piece.now) c.args.pieces.now c.loop-piece.piece-index _ l _ _ _ c.loop-piece.invariant.0 c.in_ok-write_all.ensures.exact,
      c.in_ok-write_all.ensures.fault ∙ c.loop-piece.invariant.1,
    )

pub returns-clause-exact : goal.returns-clause-exact
returns-clause-exact g c =
    let e : take c.loop-piece.piece-index c.args.pieces.now ≡ c.args.pieces.now = take_all c.loop-piece.piece-index c.args.pieces.now c.loop-piece-test.false in
    c.loop-piece.invariant.0 ∙ ap (λ xs. appended (g.S.Sink.written c.args.sink.now) (flat_map (λ piece. piece.now) xs)) e
