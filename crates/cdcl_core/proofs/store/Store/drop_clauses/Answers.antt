use Rattle.std.proofs.Common.{◌≡◌, List, length, not, sym, subst, ap, ◌∙◌, arith}
use Rattle.std.specs.List.{filter}
use Rattle.std.proofs.lemmas.List.{take_at}
use Rattle.cdcl_core.specs.declared.labels.Label.{Label}
use Rattle.cdcl_core.specs.Labels.{is_taken, stays, Drops}
use Rattle.cdcl_core.specs.Store.{StoreState, IsKept}
use Rattle.cdcl_core.specs.Shown.{parts_of}
use Rattle.cdcl_core.specs.Changes.{Becomes, live_in}
use Rattle.cdcl_core.proofs.StoreKept.{IsKept-dropped, Becomes-dropped}
use Rattle.cdcl_core.proofs.store.Store.drop_clauses.Goals as goal

pub invariant_of-self : goal.invariant_of-self
invariant_of-self c =
    let parts = parts_of c.self.inside in
    let marked = c.drop_where.new.labels in
    let long : length marked ≡ c.self.inside.labels.len = omega (arith, c.drop_where.auto.labels, c.as_mut_slice.ensures.len, c.self.inside.labels.ok.0) in
    let now : c.drop_marked.new.labels.items ≡ filter stays marked = c.drop_marked.ensures ∙ ap (filter stays) (take_at marked _ _ long) in
    let drops = subst (λ (ls : List Label). Drops c.args.which ls c.self.inside.arena.live marked c.drop_where.new.arena.live) c.as_mut_slice.ensures.value
    c.drop_where.ensures.dropped in
    record {
      kept = subst (λ (ls : List Label). IsKept (record {
        arena = c.drop_where.new.arena;
        labels = ls;
        trail = c.drop_where.new.trail;
        next =
            c.self.inside.next;
      })) (sym now)
          (IsKept-dropped c.args.which parts c.drop_where.new.arena marked c.drop_where.new.trail c.self.invariant.kept drops c.drop_where.ensures.variables
          c.drop_where.ensures.counted
          c.drop_where.ensures.proper c.drop_where.ensures.only);
      marks = c.self.invariant.marks ∙ sym c.drop_where.ensures.variables;
    }

pub returns : goal.returns
returns c =
    let parts = parts_of c.self.inside in
    let marked = c.drop_where.new.labels in
    let long : length marked ≡ c.self.inside.labels.len = omega (arith, c.drop_where.auto.labels, c.as_mut_slice.ensures.len, c.self.inside.labels.ok.0) in
    let now : c.drop_marked.new.labels.items ≡ filter stays marked = c.drop_marked.ensures ∙ ap (filter stays) (take_at marked _ _ long) in
    let drops = subst (λ (ls : List Label). Drops c.args.which ls c.self.inside.arena.live marked c.drop_where.new.arena.live) c.as_mut_slice.ensures.value
    c.drop_where.ensures.dropped in
    let new : StoreState = record {
      arena = c.drop_where.new.arena;
      labels = c.drop_marked.new.labels.items;
      trail = c.drop_where.new.trail;
      next =
          c.self.inside.next;
    } in
    let becomes = subst (λ (ls : List Label). Becomes parts (record
    { arena = c.drop_where.new.arena; labels = ls; trail = c.drop_where.new.trail; next = c.self.inside.next })
    (filter (λ entry. not (is_taken c.args.which entry)) (live_in parts)) parts.next) (sym now)
    (Becomes-dropped c.args.which parts c.drop_where.new.arena marked c.drop_where.new.trail drops c.drop_where.ensures.variables c.drop_where.ensures.only) in
    record { exact = subst (λ (p : StoreState). Becomes p new (filter (λ entry. not (is_taken c.args.which entry)) (live_in p)) p.next) c.self.view_is becomes }
