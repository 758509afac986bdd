use Rattle.std.proofs.Common.{◌≡◌, ◌++◌, ◌∷◌, [], ℕ, List, All, length, sym, subst, ap, ◌∙◌, ◌+◌, arith, rules}
use Rattle.std.proofs.lemmas.List.Elements.{All-push}
use Rattle.clause_arena.specs.State.{State, IsClause, with_clause}
use Rattle.clause_arena.specs.Slots.{contents, held_from}
use Rattle.clause_arena.proofs.Contents.{length-contents}
use Rattle.clause_arena.proofs.Changes.{held_from-push}
use Rattle.clause_arena.proofs.arena.Arena.push_spare.Goals as goal

pub invariant_of-self : goal.invariant_of-self
invariant_of-self c =
    let kept = c.self.invariant in
    let literals = c.args.literals.now in
    let now = c.put.ensures.exact ∙ ap (λ (ls : List ℕ). contents c.self.inside.slots.items ++ ls ∷ []) c.filled.ensures in
    let variables = ap (λ (s : State). s.variables) c.self.view_is in
    let clause : IsClause c.self.inside.variables literals =
    subst (λ (n : ℕ). IsClause n literals) (sym variables) (record { in_range = c.requires.in_range; distinct = c.requires.distinct }) in
    record {
      clauses = subst (λ (xs : List (List ℕ)). All (IsClause c.self.inside.variables) xs) (sym now)
          (All-push (IsClause c.self.inside.variables) (contents c.self.inside.slots.items) literals kept.clauses clause);
      empty = search rules;
      room = omega arith;
      slot_room = λ some. absurd (omega arith);
    }

pub returns : goal.returns
returns c =
    let slots = c.self.inside.slots.items in
    let literals = c.args.literals.now in
    let now = c.put.ensures.exact ∙ ap (λ (ls : List ℕ). contents slots ++ ls ∷ []) c.filled.ensures in
    let place : 0 + length (contents slots) ≡ c.put.result.place = omega (arith, c.put.ensures.reference, length-contents slots) in
    record {
      variables = ap (λ (s : State). s.variables) c.self.view_is;
      live = ap (held_from 0) now ∙ (held_from-push 0 (contents slots) literals c.requires.some
          ∙ (ap (λ (n : ℕ). with_clause (held_from 0 (contents slots)) n literals) place
          ∙ ap (λ (s : State). with_clause s.live c.put.result.place literals) c.self.view_is));
    }
