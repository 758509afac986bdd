use Rattle.std.proofs.Common.{sym, subst, ◌+◌}
use Rattle.std.proofs.lemmas.Option.{slice_get-get_or}
use Rattle.cq_steps.specs.declared.moves.Move.TheVariants as move
use Rattle.cq_steps.specs.Moves.{AreSuccessorsBefore}
use Rattle.cq_steps.proofs.OrderedMoves.{axiom_tried, atom_done}
use Rattle.cq_steps.proofs.all_moves.add_axiom_steps.Goals as goal

pub loop-number-preserved : goal.loop-number-preserved
loop-number-preserved c = λ before.
    let tried = axiom_tried c.args.axioms.now c.args.query.now c.args.atom c.loop-number.number _ c.in_ok-next.next c.loop-number.found.items
    (slice_get-get_or c.args.axioms.now c.loop-number.number _ c.loop-number-test.true) c.in_ok-next.ensures.exact (c.loop-number.invariant before) in
    subst (AreSuccessorsBefore c.args.axioms.now c.args.query.now (move.Axiom c.args.atom (c.loop-number.number + 1))) (sym c.in_ok-note.ensures) tried

pub returns : goal.returns
returns c = λ before. atom_done c.args.axioms.now c.args.query.now c.args.atom c.loop-number.number c.loop-number.found.items c.loop-number-test.false
    (c.loop-number.invariant before)
