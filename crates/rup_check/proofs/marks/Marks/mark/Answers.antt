use Rattle.std.proofs.Common.{◌≡◌, ◌<◌, ◌++◌, ◌∷◌, [], ℕ, List, true, length, set, sym, subst, ◌∙◌, arith}
use Rattle.std.proofs.lemmas.List.{length-set}
use Rattle.clause_meaning.specs.Literals.{variable_of}
use Rattle.clause_meaning.proofs.LiteralLaws.{literal_below}
use Rattle.rup_check.specs.Marks.{Marked, IsMarked}
use Rattle.rup_check.specs.Table.{Agrees}
use Rattle.rup_check.proofs.TableLemmas.{Agrees-push, fewer}
use Rattle.rup_check.proofs.marks.Marks.mark.Goals as goal

pub index_mut-requires : goal.index_mut-requires
index_mut-requires c =
    let below = subst (λ (m : Marked). variable_of c.args.literal < m.variables) (sym c.self.view_is) c.requires.in_range in
    omega (arith, literal_below c.self.inside.variables c.args.literal below, c.self.invariant.cover, c.self.inside.table.ok.0)

pub push-requires : goal.push-requires
push-requires c =
    let kept = c.self.invariant in
    let l = c.args.literal in
    let unmarked = subst (λ (m : Marked). IsMarked m.literals l → ⊥) (sym c.self.view_is) c.requires.unmarked in
    let below = subst (λ (m : Marked). variable_of l < m.variables) (sym c.self.view_is) c.requires.in_range in
    let within : l < length c.self.inside.table.items = omega (arith, literal_below c.self.inside.variables l below, kept.cover) in
    let less = fewer c.self.inside.table.items c.self.inside.literals.items l kept.agrees within unmarked in
    record { room = omega (arith, less, kept.cover, kept.room, c.self.inside.literals.ok.0) }

pub invariant_of-self : goal.invariant_of-self
invariant_of-self c =
    let kept = c.self.invariant in
    let l = c.args.literal in
    let table = c.self.inside.table.items in
    let literals = c.self.inside.literals.items in
    let unmarked = subst (λ (m : Marked). IsMarked m.literals l → ⊥) (sym c.self.view_is) c.requires.unmarked in
    let below = subst (λ (m : Marked). variable_of l < m.variables) (sym c.self.view_is) c.requires.in_range in
    let within : l < length table = omega (arith, literal_below c.self.inside.variables l below, kept.cover) in
    let items : c.push.new.items.items ≡ literals ++ l ∷ [] = c.push.ensures.exact in
    record {
      cover = length-set table l true ∙ kept.cover;
      agrees = subst (λ (ls : List ℕ). Agrees (set table l true) ls) (sym items) (Agrees-push table literals l kept.agrees within unmarked);
      room = omega (arith, kept.room, c.push.ensures.capacity);
    }
