use Rattle.std.proofs.Common.{ℕ, List, [], Contains, get_or, sym, subst, ◌∙◌, arith}
use Rattle.clause_meaning.specs.Literals.{AreBelow, HaveDistinctVariables}
use Rattle.clause_arena.specs.State.{State, IsLive, Names, IsClause}
use Rattle.clause_arena.specs.Slots.{contents, held_from}
use Rattle.clause_arena.proofs.SlotLemmas.{live_slot, named_slot, slot_has}
use Rattle.clause_arena.proofs.Contents.{lent_is, length-contents}
use Rattle.clause_arena.proofs.arena.Arena.view.Goals as goal

pub index-requires : goal.index-requires
index-requires c =
    let slots = c.self.inside.slots in
    let live = subst (λ (s : State). IsLive s c.args.clause.place) (sym c.self.view_is) c.requires.live in
    let below = (live_slot (contents slots.items) c.args.clause.place live).0 in
    omega (arith, below, length-contents slots.items, slots.ok.0, c.place.ensures)

pub returns-clause-named : goal.returns-clause-named
returns-clause-named c =
    let slots = c.self.inside.slots.items in
    let live = live_slot (contents slots) c.args.clause.place (subst (λ (s : State). IsLive s c.args.clause.place) (sym c.self.view_is) c.requires.live) in
    let is = lent_is slots c.args.clause.place c.place.result c.index.result.now c.literals.result.now (omega (arith, live.0, length-contents slots))
    c.place.ensures c.index.ensures c.literals.ensures in
    subst (λ (s : State). Names s c.args.clause.place c.literals.result.now) c.self.view_is
    (subst (λ (ls : List ℕ). Contains (held_from 0 (contents slots)) (record { reference = c.args.clause.place; literals = ls })) is
    (named_slot (contents slots) c.args.clause.place live.0 live.1))

pub returns-clause-only : goal.returns-clause-only
returns-clause-only c literals named =
    let slots = c.self.inside.slots.items in
    let live = live_slot (contents slots) c.args.clause.place (subst (λ (s : State). IsLive s c.args.clause.place) (sym c.self.view_is) c.requires.live) in
    let is = lent_is slots c.args.clause.place c.place.result c.index.result.now c.literals.result.now (omega (arith, live.0, length-contents slots))
    c.place.ensures c.index.ensures c.literals.ensures in
    slot_has (contents slots) c.args.clause.place literals (subst (λ (s : State). Names s c.args.clause.place literals) (sym c.self.view_is) named) ∙ is

pub returns-clause-some : goal.returns-clause-some
returns-clause-some c =
    let slots = c.self.inside.slots.items in
    let live = live_slot (contents slots) c.args.clause.place (subst (λ (s : State). IsLive s c.args.clause.place) (sym c.self.view_is) c.requires.live) in
    let is = lent_is slots c.args.clause.place c.place.result c.index.result.now c.literals.result.now (omega (arith, live.0, length-contents slots))
    c.place.ensures c.index.ensures c.literals.ensures in
    λ z. live.1 (is ∙ z)

pub returns-clause-in_range : goal.returns-clause-in_range
returns-clause-in_range c =
    let slots = c.self.inside.slots.items in
    let live = live_slot (contents slots) c.args.clause.place (subst (λ (s : State). IsLive s c.args.clause.place) (sym c.self.view_is) c.requires.live) in
    let is = lent_is slots c.args.clause.place c.place.result c.index.result.now c.literals.result.now (omega (arith, live.0, length-contents slots))
    c.place.ensures c.index.ensures c.literals.ensures in
    let kept : IsClause c.self.inside.variables (get_or (contents slots) c.args.clause.place []) = c.self.invariant.clauses c.args.clause.place [] live.0 in
    subst (λ (s : State). AreBelow s.variables c.literals.result.now) c.self.view_is (subst (AreBelow c.self.inside.variables) is kept.in_range)

pub returns-clause-distinct : goal.returns-clause-distinct
returns-clause-distinct c =
    let slots = c.self.inside.slots.items in
    let live = live_slot (contents slots) c.args.clause.place (subst (λ (s : State). IsLive s c.args.clause.place) (sym c.self.view_is) c.requires.live) in
    let is = lent_is slots c.args.clause.place c.place.result c.index.result.now c.literals.result.now (omega (arith, live.0, length-contents slots))
    c.place.ensures c.index.ensures c.literals.ensures in
    let kept : IsClause c.self.inside.variables (get_or (contents slots) c.args.clause.place []) = c.self.invariant.clauses c.args.clause.place [] live.0 in
    subst HaveDistinctVariables is kept.distinct
