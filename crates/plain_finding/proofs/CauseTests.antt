-- Whether an image is free of conflicts, by a look at each two of its facts.
use Rattle.std.proofs.Common.{◌≡◌, ℕ, inl, inr, Bool, true, false, true≢false, not, ◌&&◌, List, Contains, refl, sym, ◌∙◌}
use Rattle.std.specs.List.{list_any}
use Rattle.cq_terms.specs.declared.hits.Clash.{Clash}
use Rattle.cq_terms.specs.Conflicts.{own_facts, couples, IsOwn, AreInConflict}
use Rattle.cq_meaning.proofs.NameConflicts.{some_passes, passing}
use Rattle.cq_steps.proofs.Same.{and_parts}
use Rattle.priority_graph.specs.Split.{has}
use Rattle.priority_graph.proofs.SplitLemmas.{has_true, has_there}
use Rattle.report_laws.specs.HitLaws.{is_free}

-- the fact is not self-inconsistent, and conflicts with none of the facts
abbrev pub IsFreeOf : List Clash → List ℕ → ℕ → Type 0
IsFreeOf clashes image i = (IsOwn clashes i → ⊥) × ((j : ℕ) → Contains image j → AreInConflict clashes i j → ⊥)

not_true : (b : Bool) → not b ≡ true → b ≡ false
not_true true e = absurd (true≢false (sym e))
not_true false e = refl

both_not : (a b : Bool) → (a ≡ true → ⊥) → (b ≡ true → ⊥) → (not a && not b) ≡ true
both_not true b f g = absurd (f refl)
both_not false true f g = absurd (g refl)
both_not false false f g = refl

both_true : (a b : Bool) → a ≡ true → b ≡ true → (a && b) ≡ true
both_true true true p q = refl
both_true true false p q = q
both_true false b p q = p

module _ (clashes : List Clash) (image : List ℕ) where
  -- each fact of a free image is free of the others
  pub free_each : is_free (own_facts clashes) (couples clashes) image ≡ true → (i : ℕ) → Contains image i → IsFreeOf clashes image i
  free_each t i m = (own, rival)
    where
      parts : (not (list_any (has image) (own_facts clashes)) ≡ true)
          × (not (list_any (λ (p : ℕ × ℕ). has image p.0 && has image p.1) (couples clashes)) ≡ true)
      parts = and_parts (not (list_any (has image) (own_facts clashes))) (not (list_any (λ (p : ℕ × ℕ). has image p.0 && has image p.1) (couples clashes))) t

      own : IsOwn clashes i → ⊥
      own k = true≢false (sym (some_passes (has image) (own_facts clashes) i k (has_true image i m))
          ∙ not_true (list_any (has image) (own_facts clashes)) parts.0)

      pair : (p : ℕ × ℕ) → Contains (couples clashes) p → Contains image p.0 → Contains image p.1 → ⊥
      pair p k a b = true≢false (sym (some_passes (λ (r : ℕ × ℕ). has image r.0 && has image r.1) (couples clashes) p k
          (both_true (has image p.0) (has image p.1) (has_true image p.0 a) (has_true image p.1 b)))
          ∙ not_true (list_any (λ (r : ℕ × ℕ). has image r.0 && has image r.1) (couples clashes)) parts.1)

      rival : (j : ℕ) → Contains image j → AreInConflict clashes i j → ⊥
      rival j n (inl k) = pair (i, j) k m n
      rival j n (inr k) = pair (j, i) k n m

  -- and an image of such facts is free
  pub free_all : ((i : ℕ) → Contains image i → IsFreeOf clashes image i) → is_free (own_facts clashes) (couples clashes) image ≡ true
  free_all each = both_not (list_any (has image) (own_facts clashes)) (list_any (λ (p : ℕ × ℕ). has image p.0 && has image p.1) (couples clashes))
      (λ t. let (i, k, e) = passing (has image) (own_facts clashes) t in (each i (has_there image i e)).0 k)
      (λ t.
      let (p, k, e) = passing (λ (r : ℕ × ℕ). has image r.0 && has image r.1) (couples clashes) t in
      let w = and_parts (has image p.0) (has image p.1) e in
      (each p.0 (has_there image p.0 w.0)).1 p.1 (has_there image p.1 w.1) (inl k))

  -- a fact that isn't makes the image not free
  pub not_free : (i : ℕ) → Contains image i → (IsFreeOf clashes image i → ⊥) → is_free (own_facts clashes) (couples clashes) image ≡ false
  not_free i m n = by (is_free (own_facts clashes) (couples clashes) image) refl
    where
      by : (b : Bool) → is_free (own_facts clashes) (couples clashes) image ≡ b → is_free (own_facts clashes) (couples clashes) image ≡ false
      by true t = absurd (n (free_each t i m))
      by false t = t
