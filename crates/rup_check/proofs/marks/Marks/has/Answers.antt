use Rattle.std.proofs.Common.{◌<◌, false, length, sym, subst, ◌∙◌, arith}
use Rattle.std.proofs.lemmas.List.{get_or_read}
use Rattle.clause_meaning.specs.Literals.{variable_of}
use Rattle.clause_meaning.proofs.LiteralLaws.{literal_below}
use Rattle.rup_check.specs.Marks.{Marked, IsMarked}
use Rattle.rup_check.proofs.marks.Marks.has.Goals as goal

pub index-requires : goal.index-requires
index-requires c =
    let below = subst (λ (m : Marked). variable_of c.args.literal < m.variables) (sym c.self.view_is) c.requires.in_range in
    omega (arith, literal_below c.self.inside.variables c.args.literal below, c.self.invariant.cover, c.self.inside.table.ok.0)

pub returns : goal.returns
returns c =
    let l = c.args.literal in
    let below = subst (λ (m : Marked). variable_of l < m.variables) (sym c.self.view_is) c.requires.in_range in
    let within : l < length c.self.inside.table.items = omega (arith, literal_below c.self.inside.variables l below, c.self.invariant.cover) in
    let is = get_or_read c.self.inside.table.items l c.index.result.now within c.index.ensures false in
    let same = c.self.invariant.agrees.same l in (
      λ t. subst (λ (m : Marked). IsMarked m.literals l) c.self.view_is (same.0 (sym is ∙ t)),
      λ m. is ∙ same.1 (subst (λ (m : Marked). IsMarked m.literals l) (sym c.self.view_is) m),
    )
