-- Facts that conflict with a fact, each alone.
use Rattle.std.proofs.Common.{◌≡◌, ◌<◌, ℕ, List, [], ◌∷◌, inl, inr, sym, subst, ap, arith, Contains}
use Rattle.std.proofs.lemmas.List.Elements.{All-contains}
use Rattle.cq_meaning.proofs.Members.{Contains-nil, Contains-cases}
use Rattle.cq_terms.specs.Conflicts.{ConflictGraph, AreInConflict}
use Rattle.priority_graph.specs.Priority.{Priority, IsPriority, IsOver, Conflict}
use Rattle.priority_graph.specs.Cores.{IsFree}
use Rattle.priority_graph.proofs.DirectLemmas.{conflict_of}

one_is : (j i : ℕ) → Contains (j ∷ []) i → j ≡ i
one_is j i m = elim (Contains-cases j [] i m) [ inl e ↦ e | inr n ↦ absurd (Contains-nil i n) ]

turned : (p : Priority) (i j : ℕ) → Conflict p i j → Conflict p j i
turned p i j (inl m) = inr m
turned p i j (inr m) = inl m

not_itself : (p : Priority) → IsPriority p → (j : ℕ) → ¬ Conflict p j j
not_itself p h j c = go (elim c [ inl m ↦ less m | inr m ↦ less m ])
  where
    less : Contains p.couples (j, j) → j < j
    less m = (All-contains (λ (c : ℕ × ℕ). (c.0 < c.1) × (c.1 < p.facts)) p.couples (j, j) h.couples_known m).0

    go : j < j → ⊥
    go l = omega arith

pub free_rival : (p : Priority) (g : ConflictGraph) (i j : ℕ) → IsPriority p → IsOver p g → AreInConflict g.clashes i j → IsFree p (Contains (j ∷ []))
free_rival p g i j h over c = record {
  own = λ k m own. h.apart j i (subst (Contains p.own) (sym (one_is j k m)) own) (turned p i j (conflict_of p g i j over c));
  pairs = λ k l m n conflict. not_itself p h j (subst (λ (x : ℕ). Conflict p j x) (sym (one_is j l n)) (subst (λ (x : ℕ). Conflict p x l)
      (sym (one_is j k m)) conflict));
}
