use Rattle.std.proofs.Common.{◌≡◌, ◌+◌, ℕ, List, All, length, get_or, take, map, filter, sym, subst, ap, ◌∙◌, arith}
use Rattle.std.proofs.lemmas.List.Elements.{All-filter}
use Rattle.clause_arena.specs.State.{State, IsLive, IsClause, renamed, renumbered}
use Rattle.clause_arena.specs.Slots.{contents, held_from, is_full, full_count}
use Rattle.clause_arena.proofs.SlotLemmas.{live_slot}
use Rattle.clause_arena.proofs.Contents.{length-contents}
use Rattle.clause_arena.proofs.Changes.{held_from-gaps}
use Rattle.clause_arena.proofs.arena.Arena.compact.Goals as goal

pub rename-requires-clause-within : goal.rename-requires-clause-within
rename-requires-clause-within c k d below =
    let slots = c.self.inside.slots.items in
    let place = (get_or c.args.refs.now k d).place in
    let live = live_slot (contents slots) place (subst (λ (s : State). IsLive s place) (sym c.self.view_is) (c.requires.live k d below)) in
    let same = ap length c.rank.ensures.same in
    omega (arith, live.0, length-contents slots, length-contents c.rank.new.slots.items, same, ap length c.deref.ensures.value)

pub invariant_of-self : goal.invariant_of-self
invariant_of-self c =
    let kept = c.self.invariant in
    let P = IsClause c.self.inside.variables in
    let now = c.close_gaps.ensures.exact ∙ ap (filter is_full) c.rank.ensures.same in
    record {
      clauses = subst (λ (xs : List (List ℕ)). All P xs) (sym now) (All-filter is_full P (contents c.self.inside.slots.items) kept.clauses);
      empty = kept.empty;
      room = kept.room;
      slot_room = λ some. omega (arith, kept.slot_room some, c.close_gaps.ensures.len, c.close_gaps.ensures.room, c.rank.ensures.len, c.rank.ensures.room);
    }

pub returns-clause-exact : goal.returns-clause-exact
returns-clause-exact c =
    let slots = contents c.self.inside.slots.items in
    let f = λ (place : ℕ). full_count (take place slots) in
    let now = c.close_gaps.ensures.exact ∙ ap (filter is_full) c.rank.ensures.same in
    let lent : contents c.deref.result.now ≡ slots = ap contents c.deref.ensures.value ∙ c.rank.ensures.same in (
      f,
      record {
        variables = ap (λ (s : State). s.variables) c.self.view_is;
        live = ap (held_from 0) now ∙ (held_from-gaps f 0 0 slots (λ k h. let same : 0 + k ≡ k = omega arith in
            let more : f k ≡ 0 + full_count (take k slots) = omega arith in ap f same ∙ more)
            ∙ ap (λ (s : State). map (renamed f) s.live) c.self.view_is);
      },
      c.rename.ensures ∙ ap (λ (xs : List (List ℕ)). map (renumbered (λ (place : ℕ). full_count (take place xs))) c.args.refs.now) lent,
    )
