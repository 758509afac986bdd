-- The parts of a core.
use Rattle.std.proofs.Common.{◌⊎◌, ◌↔◌, ℕ, List, Contains, All, sym, subst}
use Rattle.std.proofs.lemmas.List.Elements.{All-contains}
use Rattle.cq_terms.specs.declared.hits.Clash.{Clash}
use Rattle.cq_terms.specs.Conflicts.{ConflictGraph, AreInConflict, IsOwn}
use Rattle.cq_meaning.proofs.Ascending.{All-of}
use Rattle.priority_graph.specs.Priority.{Priority, IsOver, AreBlockers}
use Rattle.priority_graph.specs.Cores.{IsFree, IsBlocked, IsCore}
use Rattle.priority_graph.proofs.DirectLemmas.{conflict_over, conflict_of}
use Rattle.plain_finding.specs.CoreParts.{IsApart, DropsRivals}

-- what conflicts with a fact is dropped, by the list of it
pub rivals_dropped : (clashes : List Clash) (dropped : List ℕ) (fact : ℕ) (rivals : List ℕ) → ((j : ℕ) → Contains rivals j ↔ AreInConflict clashes fact j)
    → All (Contains dropped) rivals → DropsRivals clashes dropped fact
rivals_dropped clashes dropped fact rivals are all j c = All-contains (Contains dropped) rivals j all ((are j).1 c)

pub rivals_from : (clashes : List Clash) (dropped : List ℕ) (fact : ℕ) (rivals : List ℕ) → ((j : ℕ) → Contains rivals j ↔ AreInConflict clashes fact j)
    → DropsRivals clashes dropped fact → All (Contains dropped) rivals
rivals_from clashes dropped fact rivals are drops = All-of (Contains dropped) rivals (λ j m. drops j ((are j).0 m))

-- a fact is apart by the list of what conflicts with it
pub apart_told : (clashes : List Clash) (kept : List ℕ) (fact : ℕ) (rivals : List ℕ) → ((j : ℕ) → Contains rivals j ↔ AreInConflict clashes fact j)
    → ¬ IsOwn clashes fact → All (λ i. ¬ Contains kept i) rivals ↔ IsApart clashes kept fact
apart_told clashes kept fact rivals are own = (
  (λ all. record { own = own; pairs = λ j m c. All-contains (λ i. ¬ Contains kept i) rivals j all ((are j).1 c) m }),
  (λ w. All-of (λ i. ¬ Contains kept i) rivals (λ j m k. w.pairs j k ((are j).0 m))),
)

module _ (p : Priority) (g : ConflictGraph) (over : IsOver p g) where
  pub own_of : (i : ℕ) → Contains p.own i → IsOwn g.clashes i
  own_of i m = subst (λ (l : List ℕ). Contains l i) over.own m

  pub own_from : (i : ℕ) → IsOwn g.clashes i → Contains p.own i
  own_from i m = subst (λ (l : List ℕ). Contains l i) (sym over.own) m

  -- facts that are apart from each other are free of conflicts
  pub free_from_apart : (kept : List ℕ) → All (IsApart g.clashes kept) kept → IsFree p (Contains kept)
  free_from_apart kept apart = record {
    own = λ i m o. (All-contains (IsApart g.clashes kept) kept i apart m).own (own_of i o);
    pairs = λ i j m n c. (All-contains (IsApart g.clashes kept) kept i apart m).pairs j n (conflict_over p g i j over c);
  }

  pub apart_from_free : (kept : List ℕ) → IsFree p (Contains kept) → All (IsApart g.clashes kept) kept
  apart_from_free kept free = All-of (IsApart g.clashes kept) kept
      (λ i m. record { own = λ o. free.own i m (own_from i o); pairs = λ j n c. free.pairs i j m n (conflict_of p g i j over c) })

  -- the fact is blocked by what blocks it among the kept ones
  pub blocked_told : (kept blockers : List ℕ) (j : ℕ) → AreBlockers p j blockers
      → ((i : ℕ) × Contains blockers i × Contains kept i) ↔ IsBlocked p (Contains kept) j
  blocked_told kept blockers j b = (
    (λ w. let v = (b.exact w.0).0 w.1 in (w.0, w.2, v.0, v.1)),
    (λ w. (w.0, (b.exact w.0).1 (w.2, w.3), w.1)),
  )

  abbrev MayDrop : List ℕ → ℕ → Type 0
  MayDrop kept j = Contains p.own j ⊎ IsBlocked p (Contains kept) j

  pub core_from : (kept dropped : List ℕ) → All (IsApart g.clashes kept) kept → All (DropsRivals g.clashes dropped) kept
      → All (λ j. Contains p.own j ⊎ IsBlocked p (Contains kept) j) dropped → IsCore p (Contains kept) (Contains dropped)
  core_from kept dropped apart drops blocked = record {
    free = free_from_apart kept apart;
    drops = λ i j m c. All-contains (DropsRivals g.clashes dropped) kept i drops m j (conflict_over p g i j over c);
    blocked = λ j m. All-contains (MayDrop kept) dropped j blocked m;
  }

  pub drops_from : (kept dropped : List ℕ) → IsCore p (Contains kept) (Contains dropped) → All (DropsRivals g.clashes dropped) kept
  drops_from kept dropped core = All-of (DropsRivals g.clashes dropped) kept (λ i m j c. core.drops i j m (conflict_of p g i j over c))

  pub may_drop_from : (kept dropped : List ℕ) → IsCore p (Contains kept) (Contains dropped)
      → All (λ j. Contains p.own j ⊎ IsBlocked p (Contains kept) j) dropped
  may_drop_from kept dropped core = All-of (MayDrop kept) dropped core.blocked
