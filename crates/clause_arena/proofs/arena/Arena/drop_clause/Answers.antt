use Rattle.std.proofs.Common.{◌≡◌, ℕ, List, [], All, set, sym, subst, ap, ◌∙◌, arith}
use Rattle.std.proofs.lemmas.List.Elements.{All-set}
use Rattle.clause_arena.specs.State.{State, IsLive, IsClause, without}
use Rattle.clause_arena.specs.Slots.{contents, held_from}
use Rattle.clause_arena.proofs.SlotLemmas.{live_slot}
use Rattle.clause_arena.proofs.Contents.{length-contents, IsClause-nil}
use Rattle.clause_arena.proofs.Changes.{held_from-free}
use Rattle.clause_arena.proofs.arena.Arena.drop_clause.Goals as goal

pub free-requires : goal.free-requires
free-requires c =
    let slots = c.self.inside.slots in
    let live = live_slot (contents slots.items) c.args.clause.place
    (subst (λ (s : State). IsLive s c.args.clause.place) (sym c.self.view_is) c.requires.live) in
    omega (arith, live.0, length-contents slots.items, slots.ok.0, c.place.ensures)

pub invariant_of-self : goal.invariant_of-self
invariant_of-self c =
    let kept = c.self.invariant in
    let P = IsClause c.self.inside.variables in
    record {
      clauses = subst (λ (xs : List (List ℕ)). All P xs) (sym c.free.ensures.freed)
          (All-set P (contents c.self.inside.slots.items) c.place.result [] (IsClause-nil c.self.inside.variables) kept.clauses);
      empty = kept.empty;
      room = kept.room;
      slot_room = λ some. omega (arith, kept.slot_room some, c.free.ensures.len, c.free.ensures.room);
    }

pub returns-clause-exact : goal.returns-clause-exact
returns-clause-exact c =
    let slots = c.self.inside.slots.items in
    let live = live_slot (contents slots) c.args.clause.place (subst (λ (s : State). IsLive s c.args.clause.place) (sym c.self.view_is) c.requires.live) in
    let place : c.place.result ≡ c.args.clause.place = c.place.ensures in
    record {
      variables = ap (λ (s : State). s.variables) c.self.view_is;
      live = ap (held_from 0) (c.free.ensures.freed ∙ ap (λ (k : ℕ). set (contents slots) k []) place)
          ∙ (held_from-free 0 (contents slots) c.args.clause.place live.0
          ∙ (ap (without (held_from 0 (contents slots))) (omega arith)
          ∙ ap (λ (s : State). without s.live c.args.clause.place) c.self.view_is));
    }
