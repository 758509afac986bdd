use Rattle.std.proofs.Common.{sym, subst, ◌∙◌}
use Rattle.clause_learning.specs.Marking.{Lists}
use Rattle.clause_learning.proofs.Marked.{Lists-move}
use Rattle.clause_learning.proofs.resolving.list_one.Goals as goal

pub returns-clause-lists : goal.returns-clause-lists
returns-clause-lists c = λ start done lists.
    subst (Lists start _ _) (sym c.in_ok-push.ensures.items)
    (Lists-move start done c.args.marks.now c.args.literals.now.items c.args.literal c.requires.within (sym c.has_mark.ensures ∙ c.if-not-has_mark.false) lists)
