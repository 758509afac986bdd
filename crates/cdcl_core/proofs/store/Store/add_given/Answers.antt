use Rattle.std.proofs.Common.{◌≡◌, ℕ, ◌++◌, ◌∷◌, [], List, None, false, sym, subst, ap, ◌∙◌}
use Rattle.cdcl_core.specs.declared.labels.Label.{Label}
use Rattle.cdcl_core.specs.State.{AscendsAs}
use Rattle.cdcl_core.specs.Store.{StoreState, IsProper, IsKept}
use Rattle.cdcl_core.specs.Shown.{parts_of}
use Rattle.cdcl_core.specs.Changes.{Becomes, live_in}
use Rattle.cdcl_core.proofs.Orders.{IsProper-ascends}
use Rattle.cdcl_core.proofs.StoreKept.{IsKept-same, IsKept-given, Becomes-given_after}
use Rattle.cdcl_core.proofs.store.Store.add_given.Goals as goal

pub put-requires-clause-proper : goal.put-requires-clause-proper
put-requires-clause-proper c =
    let clause = c.args.clause.now in
    let old = c.args.self.now.arena.variables in
    let order : AscendsAs clause c.in_ok-literals.literals.items = c.in_ok-literals.ensures in
    let proper = IsProper-ascends old clause c.in_ok-literals.literals.items c.requires.proper order in
    let variables : old ≡ c.reserve.new.self.variables = sym (c.reserve.ensures.same_clauses.variables
    ∙ ap (λ (p : StoreState). p.arena.variables) c.self.view_is) in
    subst (λ (n : ℕ). IsProper n c.as_slice.result.now) variables (subst (IsProper old) (sym c.as_slice.ensures.value) proper)

pub invariant_of-self-2 : goal.invariant_of-self-2
invariant_of-self-2 c =
    let clause = c.args.clause.now in
    let old = c.args.self.now.arena.variables in
    let order : AscendsAs clause c.in_ok-literals.literals.items = c.in_ok-literals.ensures in
    let shown = IsProper-ascends old clause c.in_ok-literals.literals.items c.requires.proper order in
    let variables : old ≡ c.reserve.new.self.variables = sym (c.reserve.ensures.same_clauses.variables
    ∙ ap (λ (p : StoreState). p.arena.variables) c.self.view_is) in
    let proper = subst (λ (n : ℕ). IsProper n c.as_slice.result.now) variables (subst (IsProper old) (sym c.as_slice.ensures.value) shown) in
    let parts = parts_of c.self.inside in
    let room : StoreState = record parts { arena = c.reserve.new.self } in
    let label : Label = record { number = None; goes = false } in
    let labels : c.put.new.labels.items ≡ parts.labels ++ label ∷ [] =
    c.put.ensures.label ∙ ap (λ (ls : List Label). ls ++ label ∷ []) c.reserve-2.ensures.items in
    let kept = IsKept-same parts c.reserve.new.self c.self.invariant.kept c.reserve.ensures.same_clauses in
    record {
      kept = subst (λ (ls : List Label). IsKept (record { arena = c.put.new.arena; labels = ls; trail = c.put.new.trail; next = c.self.inside.next }))
          (sym labels)
          (IsKept-given room c.put.new.arena c.put.new.trail c.put.result.place c.as_slice.result.now kept c.put.ensures.clause proper c.put.ensures.counted
          c.put.ensures.only);
      marks = c.self.invariant.marks ∙ sym (c.put.ensures.clause.variables ∙ c.reserve.ensures.same_clauses.variables);
    }

pub returns-clause-added : goal.returns-clause-added
returns-clause-added c =
    let clause = c.args.clause.now in
    let literals = c.as_slice.result.now in
    let order : AscendsAs clause c.in_ok-literals.literals.items = c.in_ok-literals.ensures in
    let parts = parts_of c.self.inside in
    let label : Label = record { number = None; goes = false } in
    let labels : c.put.new.labels.items ≡ parts.labels ++ label ∷ [] =
    c.put.ensures.label ∙ ap (λ (ls : List Label). ls ++ label ∷ []) c.reserve-2.ensures.items in
    let new : StoreState = record { arena = c.put.new.arena; labels = c.put.new.labels.items; trail = c.put.new.trail; next = c.self.inside.next } in
    let becomes = Becomes-given_after parts c.reserve.new.self c.put.new.arena c.put.new.trail c.put.result.place literals c.self.invariant.kept
    c.reserve.ensures.same_clauses c.put.ensures.clause c.put.ensures.only in
    let now : Becomes parts new (live_in parts ++ record { number = None; literals = literals } ∷ []) parts.next =
    subst (λ (ls : List Label). Becomes parts (record { arena = c.put.new.arena; labels = ls; trail = c.put.new.trail; next = c.self.inside.next })
    (live_in parts ++ record { number = None; literals = literals } ∷ []) parts.next) (sym labels) becomes in (
      literals,
      subst (AscendsAs clause) (sym c.as_slice.ensures.value) order,
      subst (λ (p : StoreState). Becomes p new (live_in p ++ record { number = None; literals = literals } ∷ []) p.next) c.self.view_is now,
    )
