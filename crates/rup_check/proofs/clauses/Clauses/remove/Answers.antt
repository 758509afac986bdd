use Rattle.std.proofs.Common.{◌<◌, ◌∙◌, ℕ, List, All, None, length, sym, subst}
use Rattle.std.proofs.lemmas.List.{get_or_default}
use Rattle.rup_check.specs.Slots.{Stock, IsAt}
use Rattle.rup_check.proofs.LiteralRange.{AreBelow-within}
use Rattle.rup_check.proofs.clauses.Clauses.remove.Goals as goal

pub delist-requires : goal.delist-requires
delist-requires c =
    let slots = c.self.inside.slots.items in
    let n = c.args.number in
    let within = subst (λ (s : Stock). n < length s.slots) (sym c.self.view_is) c.requires.within in
    let at : IsAt slots n c.in-Some.literals.items = get_or_default slots n None c.index_mut.result.now within
    ∙ (sym c.index_mut.ensures.value ∙ sym c.in-Some.ensures.taken) in
    record {
      within = subst (λ (ls : List ℕ). All (λ l. l < length c.self.inside.lists.by_literal) ls) (sym c.deref.ensures.value)
          (AreBelow-within c.self.inside.variables (length c.self.inside.lists.by_literal) c.in-Some.literals.items c.self.invariant.cover
          (c.self.invariant.kept.in_range n c.in-Some.literals.items at));
    }
