use Rattle.std.proofs.Common.{◌≡◌, ◌∙◌, sym, ap, subst, Some}
use Rattle.std.specs.List.{slice_get}
use Rattle.std.proofs.lemmas.Option.{slice_get-get_or}
use Rattle.cq_steps.specs.declared.closure.Member.{Member}
use Rattle.cq_steps.specs.Moves.{AreSuccessors}
use Rattle.perfect_ref.specs.Search.{IsTurn}
use Rattle.perfect_ref.proofs.breadth_first.handle.Goals as goal

pub returns-clause-refused : goal.returns-clause-refused
returns-clause-refused c = λ q derived e.
    let p : Member = c.index-members-from.result in
    let members = c.args.found.now.closure in
    let read = rw c.members-members.ensures.lent at c.index-members-from.is in
    let at : slice_get members c.args.from ≡ Some p = slice_get-get_or members c.args.from p c.requires.place ∙ ap Some (sym read) in
    let turn : IsTurn c.args.axioms.now c.args.limit c.args.from p c.in_ok-moves.moves.items members =
    record {
      at = at;
      successors = subst (λ (w : Member). AreSuccessors c.args.axioms.now w.query c.in_ok-moves.moves.items) (sym c.index-members-from.is)
          c.in_ok-moves.ensures.exact;
      found = c.requires.found;
      behind = c.requires.behind;
    } in
    c.note_all.ensures.refused c.args.axioms.now p q turn derived e
