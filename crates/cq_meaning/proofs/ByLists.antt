-- Consistency over the exact lists of conflicts.
use Rattle.std.proofs.Common.{ℕ, ◌<◌, ◌≤◌, ◌⊎◌, ◌↔◌, inl, inr, List, length, arith}
use Rattle.std.specs.List.{All}
use Rattle.std.proofs.lemmas.Bool.{cases_lt}
use Rattle.std.proofs.lemmas.List.Elements.{All-contains}
use Rattle.cq_terms.specs.Knowledge.{Knowledge}
use Rattle.cq_meaning.specs.Conflicts.{Only, Both, AreConsistent, Conflict, AreConflicts}
use Rattle.cq_meaning.proofs.Extension.{AreConsistent-within, Conflict-sym, consistent_by_pairs, no_conflict_in_consistent}
use Rattle.cq_meaning.proofs.Ascending.{All-of}

-- facts in conflict are facts of the table
pub Conflict-within : (kb : Knowledge) (i j : ℕ) → Conflict kb i j → i < length kb.facts
Conflict-within kb i j c = go (cases_lt i (length kb.facts))
  where
    go : (i < length kb.facts) ⊎ (length kb.facts ≤ i) → i < length kb.facts
    go (inl l) = l
    go (inr l) = absurd (c.together (AreConsistent-within kb (Both i j) (Only j) (λ k h. elim [ inl e ↦ absurd (omega arith) | inr e ↦ e ]) c.right))

pub consistent_by_lists : (kb : Knowledge) (owns : List ℕ) (pairs : List (ℕ × ℕ)) → AreConflicts kb owns pairs → (S : ℕ → Type 0)
    → AreConsistent kb S ↔ (All (λ i. ¬ S i) owns × All (λ p. ¬ (S p.0 × S p.1)) pairs)
consistent_by_lists kb owns pairs exact S = (there, back)
  where
    there : AreConsistent kb S → All (λ i. ¬ S i) owns × All (λ p. ¬ (S p.0 × S p.1)) pairs
    there c =
        let free = no_conflict_in_consistent kb S c in (
          All-of (λ i. ¬ S i) owns (λ i m s. let w = (exact.owns_exact i).0 m in free.own i w.0 s w.1),
          All-of (λ p. ¬ (S p.0 × S p.1)) pairs (λ p m (s, t). let w = (exact.pairs_exact p.0 p.1).0 m in
              free.pairs p.0 p.1 (Conflict-within kb p.0 p.1 w.1) (Conflict-within kb p.1 p.0 (Conflict-sym kb p.0 p.1 w.1)) s t w.1),
        )

    back : All (λ i. ¬ S i) owns × All (λ p. ¬ (S p.0 × S p.1)) pairs → AreConsistent kb S
    back (o, p) = consistent_by_pairs kb S (record {
      own = λ i l s n. All-contains (λ i. ¬ S i) owns i o ((exact.owns_exact i).1 (l, n)) s;
      pairs = λ i j il jl s t c. apart i j s t c (cases_lt i j);
    })
      where
        listed : (i j : ℕ) → S i → S j → Conflict kb i j → i < j → ⊥
        listed i j s t c l = All-contains (λ p. ¬ (S p.0 × S p.1)) pairs (i, j) p ((exact.pairs_exact i j).1 (l, c)) (s, t)

        apart : (i j : ℕ) → S i → S j → Conflict kb i j → (i < j) ⊎ (j ≤ i) → ⊥
        apart i j s t c (inl l) = listed i j s t c l
        apart i j s t c (inr l) = listed j i t s (Conflict-sym kb i j c) (let d = c.different in omega arith)
