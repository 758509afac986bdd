use Rattle.std.proofs.Common.{◌≡◌, ◌++◌, ◌∷◌, [], ℕ, List, Contains, false, sym, subst, ◌∙◌, arith}
use Rattle.std.proofs.lemmas.List.{length-set}
use Rattle.std.proofs.lemmas.List.Elements.{Contains-push}
use Rattle.clause_meaning.proofs.MarkLemmas.{HasMark-below}
use Rattle.rup_check.specs.Table.{Agrees}
use Rattle.rup_check.proofs.TableLemmas.{Agrees-pop}
use Rattle.rup_check.proofs.marks.Marks.take_last.Goals as goal

pub index_mut-requires : goal.index_mut-requires
index_mut-requires c =
    let kept = c.self.invariant in
    let table = c.self.inside.table.items in
    let new = c.pop.new.self.items in
    let l = c.in-Some.literal in
    let items : c.self.inside.literals.items ≡ new ++ l ∷ [] = c.in-Some.ensures.items in
    let below = HasMark-below table l ((kept.agrees.same l).1 (subst (λ (ls : List ℕ). Contains ls l) (sym items) (Contains-push new l))) in
    omega (arith, below, c.self.inside.table.ok.0)

pub invariant_of-self-in-Some : goal.invariant_of-self-in-Some
invariant_of-self-in-Some c =
    let kept = c.self.invariant in
    let table = c.self.inside.table.items in
    let new = c.pop.new.self.items in
    let l = c.in-Some.literal in
    let items : c.self.inside.literals.items ≡ new ++ l ∷ [] = c.in-Some.ensures.items in
    record {
      cover = length-set table l false ∙ kept.cover;
      agrees = Agrees-pop table new l (subst (Agrees table) items kept.agrees);
      room = omega (arith, kept.room, c.in-Some.ensures.capacity);
    }
