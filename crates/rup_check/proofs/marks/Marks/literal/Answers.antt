use Rattle.std.proofs.Common.{◌<◌, length, sym, subst, arith}
use Rattle.clause_meaning.specs.Literals.{variable_of}
use Rattle.rup_check.specs.Marks.{Marked}
use Rattle.clause_meaning.proofs.MarkLemmas.{HasMark-below}
use Rattle.rup_check.proofs.LiteralRange.{variable_below}
use Rattle.rup_check.proofs.marks.Marks.literal.Goals as goal

pub returns-clause-in_range : goal.returns-clause-in_range
returns-clause-in_range c =
    let kept = c.self.invariant in
    let l = c.index.result.now in
    let within = subst (λ (m : Marked). c.args.place < length m.literals) (sym c.self.view_is) c.requires.within in
    let below = HasMark-below c.self.inside.table.items l ((kept.agrees.same l).1 (c.args.place, within, sym c.index.ensures)) in
    subst (λ (m : Marked). variable_of l < m.variables) c.self.view_is (variable_below c.self.inside.variables l (omega (arith, below, kept.cover)))
