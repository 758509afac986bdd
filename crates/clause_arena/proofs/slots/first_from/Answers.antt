use Rattle.std.proofs.Common.{◌≡◌, ◌<◌, ◌≤◌, ◌^◌, ℕ, [], Any, All, get_or, sym, subst, ap, ◌∙◌, arith, refl, inl, inr}
use Rattle.std.proofs.lemmas.Bool.{cases_eq}
use Rattle.clause_arena.specs.State.{HeldClause}
use Rattle.clause_arena.specs.Slots.{contents, held_from}
use Rattle.clause_arena.proofs.SlotLemmas.{named_slot, held_slot, All-from_member}
use Rattle.clause_arena.proofs.Contents.{contents_at, length-contents, items_from_empty, items_from_full}
use Rattle.clause_arena.proofs.slots.first_from.Goals as goal

pub returns-then-not-is_empty : goal.returns-then-not-is_empty
returns-then-not-is_empty c =
    let slots = c.args.slots.now in
    let place = c.loop-place.place in
    let slot = get_or slots place c.index-slots-place.result in
    let full = items_from_full slot.literals (sym c.is_empty.ensures ∙ c.if-not-is_empty.true) in
    let is : get_or (contents slots) place [] ≡ slot.literals.items = contents_at slots place c.index-slots-place.result c.loop-place-test.true in
    let held = named_slot (contents slots) place (subst (λ n. place < n) (sym (length-contents slots)) c.loop-place-test.true) (λ z. full (sym is ∙ z)) in
    subst (λ (r : ℕ). (c.args.low ≤ r) × (r < 2 ^ 64) × Any (λ (h : HeldClause). h.reference ≡ r) (held_from 0 (contents slots))
    × All (λ (h : HeldClause). h.reference < r → h.reference < c.args.low) (held_from 0 (contents slots))) (sym c.reference_of.ensures) (
      c.loop-place.auto.place,
      omega arith,
      (held.0, _, held.1, held.2, refl),
      All-from_member (λ (h : HeldClause). h.reference < place → h.reference < c.args.low) (held_from 0 (contents slots)) c.loop-place.invariant,
    )

pub loop-place-preserved : goal.loop-place-preserved
loop-place-preserved c h m below =
    let slots = c.args.slots.now in
    let place = c.loop-place.place in
    let slot = get_or slots place c.index-slots-place.result in
    let none = items_from_empty slot.literals (sym c.is_empty.ensures ∙ c.if-not-is_empty.false) in
    elim (cases_eq h.reference place) [
      | inl e ↦ absurd ((held_slot (contents slots) h m).1 (ap (λ (k : ℕ). get_or (contents slots) k []) e
          ∙ (contents_at slots place c.index-slots-place.result c.loop-place-test.true ∙ none)))
      | inr n ↦ c.loop-place.invariant h m (omega arith)
    ]

pub returns : goal.returns
returns c = All-from_member (λ (h : HeldClause). h.reference < c.args.low) (held_from 0 (contents c.args.slots.now)) (λ h m.
    let below = (held_slot (contents c.args.slots.now) h m).0 in
    let len = length-contents c.args.slots.now in
    c.loop-place.invariant h m (omega (arith, below, len)))
