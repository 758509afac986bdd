-- The last byte decides.
use Rattle.std.proofs.Common.{sym, ap, ◌∙◌, ◌++◌, ◌∷◌, []}
use Rattle.axiom_reader.specs.Lines.{without_return}
use Rattle.axiom_reader.proofs.LineLemmas.{returns_cut, returns_other, returns_none}
use Rattle.axiom_reader.proofs.lines.without_return.Goals as goal

pub returns-in_default-clause-exact : goal.returns-in_default-clause-exact
returns-in_default-clause-exact c = sym (returns_none _ c.in_default.ensures.cases)

pub returns-then-last-eq13-clause-exact : goal.returns-then-last-eq13-clause-exact
returns-then-last-eq13-clause-exact c =
    let before = c.in-Some.before.now in
    sym (ap without_return (c.in-Some.ensures.cases.0 ∙ ap (λ last. before ++ last ∷ []) c.if-last-eq13.true) ∙ returns_cut before)

pub returns-else-last-eq13-clause-exact : goal.returns-else-last-eq13-clause-exact
returns-else-last-eq13-clause-exact c =
    let line = c.in-Some.ensures.cases.0 in
    line ∙ sym (ap without_return line ∙ returns_other c.in-Some.before.now c.in-Some.last.now c.if-last-eq13.false)
