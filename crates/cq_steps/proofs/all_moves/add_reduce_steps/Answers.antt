use Rattle.std.proofs.Common.{◌≤◌, length, sym, subst, ◌+◌}
use Rattle.cq_steps.specs.declared.moves.Move.TheVariants as move
use Rattle.cq_steps.specs.Moves.{AreSuccessorsBefore}
use Rattle.cq_steps.proofs.OrderedMoves.{reduce_tried, first_done, row_done}
use Rattle.cq_steps.proofs.all_moves.add_reduce_steps.Goals as goal

pub loop-second-init : goal.loop-second-init
loop-second-init c = λ axioms before. first_done axioms c.args.query.now c.args.first _ before

pub loop-second-preserved : goal.loop-second-preserved
loop-second-preserved c = λ axioms before.
    let tried = reduce_tried axioms c.args.query.now c.args.first c.loop-second.second c.in_ok-next.next c.loop-second.found.items
    c.in_ok-next.ensures.exact (c.loop-second.invariant axioms before) in
    subst (AreSuccessorsBefore axioms c.args.query.now (move.Reduce c.args.first (c.loop-second.second + 1))) (sym c.in_ok-note.ensures) tried

pub returns : goal.returns
returns c = λ axioms before.
    let end : length c.args.query.now.body ≤ c.loop-second.second = rw c.body-atoms.ensures.lent at c.loop-second-test.false in
    row_done axioms c.args.query.now c.args.first c.loop-second.second c.loop-second.found.items end (c.loop-second.invariant axioms before)
