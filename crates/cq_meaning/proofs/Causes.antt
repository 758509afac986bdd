-- A consistent set that entails a tuple has a cause of it, and so causes tell the verdicts.
use Rattle.std.proofs.Common.{◌≡◌, ℕ, zero, suc, ◌<◌, ◌≤◌, ◌⊎◌, ◌↔◌, inl, inr, List, [], ◌∷◌, length, filter, Contains, Some, refl, sym, subst, ap, ◌∙◌}
use Rattle.std.proofs.Common.{arith, Bool, not, cond, ◌==◌, eq-eqb, ne_eqb}
use Rattle.std.proofs.lemmas.Bool.{cases_eq}
use Rattle.std.proofs.lemmas.List.Elements.{All-contains}
use Rattle.std.proofs.lemmas.List.Kept.{AllPairs-filter}
use Rattle.std.proofs.lemmas.Option.{slice_get_within}
use Rattle.cq_terms.specs.declared.facts.Fact.{Fact}
use Rattle.cq_terms.specs.declared.facts.Repairs.{Repairs}
use Rattle.cq_terms.specs.Knowledge.{Knowledge}
use Rattle.cq_terms.specs.Query.{Query}
use Rattle.cq_terms.specs.Lists.{IsAscending}
use Rattle.cq_meaning.specs.Conflicts.{facts_in, In, AreConsistent, FactsEntail}
use Rattle.cq_meaning.specs.Candidates.{Without}
use Rattle.cq_meaning.specs.Repairs.{IsChosen, IsAcyclic}
use Rattle.cq_meaning.specs.VerdictLaws.{HasCause, VerdictsByCauses}
use Rattle.cq_meaning.proofs.Members.{Contains-head, Contains-later, Contains-cases, Contains-nil}
use Rattle.cq_meaning.proofs.Extension.{AreConsistent-mono}
use Rattle.cq_meaning.proofs.Single.{Entails-mono, FactsEntail-mono}
use Rattle.cq_meaning.proofs.Listed.{all_or_some, member}
use Rattle.cq_meaning.proofs.Settled.{filter_cases}
use Rattle.cq_meaning.proofs.Ascending.{with_property, All-of}
use Rattle.cq_meaning.proofs.Exact.{rewriting_sound, rewriting_complete}
use Rattle.cq_meaning.proofs.Supports.{image_has, Match-image}
use Rattle.cq_meaning.proofs.Decided.{part_entails_or_not, conflicts_told}
use Rattle.cq_meaning.proofs.Chosen.{chosen_exists}

-- ---- a list without a number

-- the list without the number
abbrev others : ℕ → List ℕ → List ℕ
others i numbers = filter (λ j. not (j == i)) numbers

others_are : (i : ℕ) (numbers : List ℕ) (l : ℕ) → Without i (Contains numbers) l ↔ Contains (others i numbers) l
others_are i [] l = ((λ (c, n). absurd (Contains-nil l c)), (λ c. absurd (Contains-nil l c)))
others_are i (x ∷ xs) l = go (cases_eq x i) (others_are i xs l)
  where
    go : (x ≡ i) ⊎ (x ≡ i → ⊥) → Without i (Contains xs) l ↔ Contains (others i xs) l → Without i (Contains (x ∷ xs)) l ↔ Contains (others i (x ∷ xs)) l
    go (inl e) w =
        let d : others i (x ∷ xs) ≡ others i xs = ap (λ b. cond (not b) (x ∷ others i xs) (others i xs)) (eq-eqb x i e) in (
          (λ (c, n). subst (λ (ys : List ℕ). Contains ys l) (sym d) (elim (Contains-cases x xs l c) [ inl k ↦ absurd (n (sym k ∙ e)) | inr k ↦ w.0 (k, n) ])),
          (λ c. let u = w.1 (subst (λ (ys : List ℕ). Contains ys l) d c) in (Contains-later x xs l u.0, u.1)),
        )
    go (inr ne) w =
        let d : others i (x ∷ xs) ≡ x ∷ others i xs = ap (λ b. cond (not b) (x ∷ others i xs) (others i xs)) (ne_eqb x i ne) in (
          (λ (c, n). subst (λ (ys : List ℕ). Contains ys l) (sym d) (elim (Contains-cases x xs l c)
              [ inl k ↦ subst (Contains (x ∷ others i xs)) k (Contains-head x (others i xs)) | inr k ↦ Contains-later x (others i xs) l (w.0 (k, n)) ])),
          (λ c. elim (Contains-cases x (others i xs) l (subst (λ (ys : List ℕ). Contains ys l) d c)) [
            | inl k ↦ (subst (Contains (x ∷ xs)) k (Contains-head x xs), λ h. ne (k ∙ h))
            | inr k ↦ let u = w.1 k in (Contains-later x xs l u.0, u.1)
          ]),
        )

others_less : (i : ℕ) (numbers : List ℕ) → Contains numbers i → length (others i numbers) < length numbers
others_less i numbers c = elim (filter_cases (λ j. not (j == i)) numbers) [
  | inl e ↦ absurd (((others_are i numbers i).1 (subst (λ (ys : List ℕ). Contains ys i) (sym e) c)).1 refl)
  | inr l ↦ l
]

module _ (kb : Knowledge) (q : Query) (tuple : List ℕ) where
  -- ---- finitely many facts do

  -- numbers of the set for the facts of a list
  numbers_for : (S : ℕ → Type 0) (image : List Fact) → ((f : Fact) → Contains image f → facts_in kb S f) → (numbers : List ℕ)
      × ((i : ℕ) → Contains numbers i → S i) × ((f : Fact) → Contains image f → facts_in kb (Contains numbers) f)
  numbers_for S [] h = ([], (λ i c. absurd (Contains-nil i c)), (λ f c. absurd (Contains-nil f c)))
  numbers_for S (g ∷ image) h = go (h g (Contains-head g image)) (numbers_for S image (λ f c. h f (Contains-later g image f c)))
    where
      go : facts_in kb S g → (numbers : List ℕ) × ((i : ℕ) → Contains numbers i → S i) × ((f : Fact) → Contains image f → facts_in kb (Contains numbers) f)
          → (numbers : List ℕ) × ((i : ℕ) → Contains numbers i → S i) × ((f : Fact) → Contains (g ∷ image) f → facts_in kb (Contains numbers) f)
      go (n, s, e) (numbers, inside, all) = (
        n ∷ numbers,
        (λ i c. elim (Contains-cases n numbers i c) [ inl d ↦ subst S d s | inr d ↦ inside i d ]),
        (λ f c. elim (Contains-cases g image f c) [
          | inl d ↦ (n, Contains-head n numbers, e ∙ ap Some d)
          | inr d ↦ let w = all f d in (w.0, Contains-later n numbers w.0 w.1, w.2)
        ]),
      )

  finitely_many : (S : ℕ → Type 0) → FactsEntail kb S q tuple → (numbers : List ℕ) × IsAscending numbers × ((i : ℕ) → Contains numbers i → S i)
      × FactsEntail kb (Contains numbers) q tuple
  finitely_many S e =
      let w = rewriting_complete kb.axioms (facts_in kb S) q tuple e in
      let n = numbers_for S w.1 (image_has (facts_in kb S) w.0 tuple w.1 w.3) in
      let m = Match-image (facts_in kb S) (facts_in kb (Contains n.0)) w.0 tuple w.1 (λ f c h. n.2 f c) w.3 in
      let p = with_property (Contains n.0) (λ i. member cases_eq i n.0) (length kb.facts) in (
        p.0,
        p.1,
        (λ i c. n.1 i ((p.2 i).0 c).1),
        Entails-mono kb.axioms _ _ (λ f (i, c, d). (i, (p.2 i).1 (slice_get_within kb.facts i f d, c), d)) q tuple
            (rewriting_sound kb.axioms (facts_in kb (Contains n.0)) q w.0 tuple w.1 w.2 m),
      )

  -- ---- and a least part of them

  -- the list entails the tuple, and doesn't without any one of its numbers
  record IsLeast (numbers : List ℕ) : Type 0 where
    ascending : IsAscending numbers
    entails : FactsEntail kb (Contains numbers) q tuple
    least : (i : ℕ) → Contains numbers i → ¬ FactsEntail kb (Without i (Contains numbers)) q tuple

  -- a list that isn't least has a shorter part that entails the tuple
  abbrev HasShorter : List ℕ → Type 0
  HasShorter numbers = (part : List ℕ) × (length part < length numbers) × IsAscending part × ((i : ℕ) → Contains part i → Contains numbers i)
      × FactsEntail kb (Contains part) q tuple

  least_or_shorter : (numbers : List ℕ) → IsAscending numbers → FactsEntail kb (Contains numbers) q tuple → IsLeast numbers ⊎ HasShorter numbers
  least_or_shorter numbers a e = elim (all_or_some (λ i. ¬ FactsEntail kb (Without i (Contains numbers)) q tuple)
      (λ i. FactsEntail kb (Without i (Contains numbers)) q tuple)
      (λ i. elim (part_entails_or_not kb (Without i (Contains numbers)) (others i numbers) (others_are i numbers) q tuple) [ inl d ↦ inr d | inr d ↦ inl d ])
      numbers) [
        | inl all ↦ inl (record { ascending = a; entails = e; least = all })
        | inr (i, c, d) ↦ inr (
          others i numbers,
          others_less i numbers c,
          AllPairs-filter (λ x y. x < y) (λ j. not (j == i)) numbers a,
          (λ l m. ((others_are i numbers l).1 m).0),
          FactsEntail-mono kb q tuple (Without i (Contains numbers)) (Contains (others i numbers)) (λ l m. (others_are i numbers l).0 m) d,
        )
      ]

  shrunk : (n : ℕ) (numbers : List ℕ) → length numbers ≤ n → IsAscending numbers → FactsEntail kb (Contains numbers) q tuple → (part : List ℕ) × IsLeast part
      × ((i : ℕ) → Contains part i → Contains numbers i)
  shrunk zero numbers l a e = elim (least_or_shorter numbers a e) [ inl w ↦ (numbers, w, λ i c. c) | inr s ↦ absurd (let k = s.1 in omega arith) ]
  shrunk (suc n) numbers l a e = elim (least_or_shorter numbers a e) [
    | inl w ↦ (numbers, w, λ i c. c)
    | inr (part, k, a', inside, e') ↦ let w = shrunk n part (omega arith) a' e' in (w.0, w.1, λ i c. inside i (w.2 i c))
  ]

  -- a consistent set entails the tuple exactly where it has a cause
  pub entailed_by_causes : (S : ℕ → Type 0) → AreConsistent kb S → FactsEntail kb S q tuple ↔ HasCause kb q tuple S
  entailed_by_causes S consistent = (
    there,
    λ (numbers, a, cause, all). FactsEntail-mono kb q tuple (Contains numbers) S
        (λ i c. All-contains S numbers i all c) cause.entails,
  )
    where
      there : FactsEntail kb S q tuple → HasCause kb q tuple S
      there e =
          let f = finitely_many S e in
          let w = shrunk (length f.0) f.0 (omega arith) f.1 f.3 in
          let inside : (i : ℕ) → Contains w.0 i → S i = λ i c. f.2 i (w.2 i c) in (
            w.0,
            w.1.ascending,
            record { consistent = AreConsistent-mono kb (Contains w.0) S inside consistent; entails = w.1.entails; least = w.1.least },
            All-of S w.0 inside,
          )

  pub causes_tell : (mode : Repairs) → IsAcyclic kb mode → VerdictsByCauses kb mode q tuple
  causes_tell mode acyclic = record {
    brave = (
      (λ (R, c, e). (R, c, (entailed_by_causes (In R) c.repair.consistent).0 e)),
      (λ (R, c, h). (R, c, (entailed_by_causes (In R) c.repair.consistent).1 h)),
    );
    ar = (
      (λ all R c. (entailed_by_causes (In R) c.repair.consistent).0 (all R c)),
      (λ all R c. (entailed_by_causes (In R) c.repair.consistent).1 (all R c)),
    );
    iar = entailed_by_causes Shared shared;
  }
    where
      Shared : ℕ → Type 0
      Shared i = (R : ℕ → Bool) → IsChosen kb mode R → In R i

      shared : AreConsistent kb Shared
      shared =
          let t = conflicts_told kb in
          let w = chosen_exists kb mode t.0 t.1 t.2 acyclic in
          AreConsistent-mono kb Shared (In w.0) (λ i s. s w.0 w.1) w.1.repair.consistent
