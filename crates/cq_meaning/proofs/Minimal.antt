-- A set that is not consistent, but is without any one of its facts, has one fact or two.
use Rattle.std.proofs.Common.{◌≡◌, ℕ, ◌<◌, ◌⊎◌, inl, inr, length, refl, sym, subst, ◌∙◌, slice_get, Some, Bool, true, false, true≢false}
use Rattle.std.proofs.lemmas.Bool.{cases_eq}
use Rattle.cq_terms.specs.Knowledge.{Knowledge}
use Rattle.cq_meaning.specs.Conflicts.{facts_in, In, Both, AreConsistent}
use Rattle.cq_meaning.specs.Candidates.{Without}
use Rattle.cq_meaning.proofs.Stages.{Violates-mono, Violates-two}
use Rattle.cq_meaning.proofs.Extension.{AreConsistent-mono, AreConsistent-within}
use Rattle.cq_meaning.proofs.Ascending.{with_property}
use Rattle.cq_meaning.proofs.DisjointnessQueries.{matches_violate}
use Rattle.cq_meaning.proofs.Decided.{EntailsForbidden, part_decided}

module _ (kb : Knowledge) (S : ℕ → Bool) where
  -- the facts of the table among them
  abbrev Inside : ℕ → Type 0
  Inside i = (i < length kb.facts) × In S i

  -- two of them that are not consistent together
  abbrev HasTwo : Type 0
  HasTwo = (i : ℕ) × (j : ℕ) × In S i × In S j × (¬ AreConsistent kb (Both i j))

  two_of_forbidden : EntailsForbidden kb.axioms (facts_in kb Inside) → HasTwo
  two_of_forbidden (rule, q, m, d, (k, h)) =
      let w = Violates-two kb.axioms (facts_in kb Inside) k rule (matches_violate kb.axioms (facts_in kb Inside) k rule q d h) in
      let f = w.2 in
      let g = w.3 in (
        f.0,
        g.0,
        f.1.1,
        g.1.1,
        λ c. c k rule m (Violates-mono kb.axioms _ _ (λ h. elim [
          | inl e ↦ (f.0, inl refl, subst (λ x. slice_get kb.facts f.0 ≡ Some x) (sym e) f.2)
          | inr e ↦
              (g.0, inr refl, subst (λ x. slice_get kb.facts g.0 ≡ Some x) (sym e) g.2)
        ]) k rule w.4),
      )

  inconsistent_two : ¬ AreConsistent kb (In S) → HasTwo
  inconsistent_two n =
      let w = with_property (In S) (λ i. decided (S i)) (length kb.facts) in
      elim (part_decided kb Inside w.0 (λ i. ((w.2 i).1, (w.2 i).0)))
      [ inl f ↦ two_of_forbidden f | inr c ↦ absurd (n (AreConsistent-within kb (In S) Inside (λ i l s. (l, s)) c)) ]
    where
      decided : (b : Bool) → (b ≡ true) ⊎ (b ≡ true → ⊥)
      decided true = inl refl
      decided false = inr (λ e. true≢false (sym e))

  pub minimal_has_two : ¬ AreConsistent kb (In S) → ((i : ℕ) → In S i → AreConsistent kb (Without i (In S))) → (i : ℕ) × (j : ℕ) × In S i × In S j
      × ((l : ℕ) → In S l → (l ≡ i) ⊎ (l ≡ j))
  minimal_has_two n parts = let w = inconsistent_two n in (w.0, w.1, w.2, w.3, λ l s. go w.0 w.1 w.2 w.3 w.4 l s (cases_eq l w.0) (cases_eq l w.1))
    where
      go : (i j : ℕ) → In S i → In S j → ¬ AreConsistent kb (Both i j) → (l : ℕ) → In S l → (l ≡ i) ⊎ (l ≡ i → ⊥) → (l ≡ j) ⊎ (l ≡ j → ⊥) → (l ≡ i) ⊎ (l ≡ j)
      go i j si sj n l s (inl e) w = inl e
      go i j si sj n l s (inr ne) (inl e) = inr e
      go i j si sj n l s (inr ne) (inr ne') = absurd (n (AreConsistent-mono kb (Both i j) (Without l (In S)) inside (parts l s)))
        where
          inside : (k : ℕ) → Both i j k → Without l (In S) k
          inside k (inl e) = (subst (In S) (sym e) si, λ d. ne (sym d ∙ e))
          inside k (inr e) = (subst (In S) (sym e) sj, λ d. ne' (sym d ∙ e))
