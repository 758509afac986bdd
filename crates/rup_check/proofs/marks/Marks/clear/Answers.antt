use Rattle.std.proofs.Common.{◌≡◌, ◌<◌, ℕ, List, Bool, All, Contains, length, sym, subst, ap, ◌∙◌, arith}
use Rattle.std.specs.Vec.{with_items}
use Rattle.std.proofs.lemmas.List.{with_items_is}
use Rattle.clause_meaning.specs.Marks.{HasMark}
use Rattle.rup_check.specs.Table.{Agrees}
use Rattle.rup_check.proofs.TableLemmas.{Agrees-none, listed_below}
use Rattle.rup_check.proofs.marks.Marks.clear.Goals as goal

pub unmark-requires : goal.unmark-requires
unmark-requires c =
    let table = c.self.inside.table.items in
    let literals = c.self.inside.literals.items in
    record {
      within = subst (λ (ls : List ℕ). All (λ l. l < length c.deref_mut.result.now) ls) (sym c.deref.ensures.value)
          (subst (λ (t : List Bool). All (λ l. l < length t) literals) (sym c.deref_mut.ensures.value) (listed_below table literals c.self.invariant.agrees));
    }

pub invariant_of-self : goal.invariant_of-self
invariant_of-self c =
    let kept = c.self.invariant in
    let same = c.unmark.ensures.same_length ∙ c.deref_mut.ensures.len in
    let back : (with_items c.self.inside.table c.unmark.new.table).items ≡ c.unmark.new.table = with_items_is c.self.inside.table c.unmark.new.table same in
    record {
      cover = ap length back ∙ (c.unmark.ensures.same_length ∙ (ap length c.deref_mut.ensures.value ∙ kept.cover));
      agrees = subst (λ (t : List Bool). Agrees t c.clear.new.self.items) (sym back)
          (subst (Agrees c.unmark.new.table) (sym c.clear.ensures.items)
          (Agrees-none c.unmark.new.table (λ l m.
          let gone = c.unmark.ensures.gone l m in
          gone.1 (subst (λ (ls : List ℕ). Contains ls l) (sym c.deref.ensures.value)
          ((kept.agrees.same l).0 (subst (λ (t : List Bool). HasMark t l) c.deref_mut.ensures.value gone.0))))));
      room = omega (arith, kept.room, c.clear.ensures.capacity);
    }
