-- A set of facts entails a tuple exactly where it has a support of it.
use Rattle.std.proofs.Common.{◌≡◌, ℕ, ◌⊎◌, ◌↔◌, inl, inr, List, [], ◌∷◌, length, Contains, Option, Some, None, slice_get, refl, sym, subst, ◌∙◌}
use Rattle.std.proofs.lemmas.Bool.{cases_eq}
use Rattle.std.specs.List.{All, AllZip}
use Rattle.std.proofs.lemmas.List.Elements.{All-contains}
use Rattle.std.proofs.lemmas.Option.{slice_get_within}
use Rattle.cq_terms.specs.declared.facts.Fact.{Fact}
use Rattle.cq_terms.specs.declared.query.QAtom.{QAtom}
use Rattle.cq_terms.specs.Knowledge.{Knowledge, AreDistinct}
use Rattle.cq_terms.specs.Query.{Query}
use Rattle.cq_meaning.specs.Chase.{Named, atom_of}
use Rattle.cq_meaning.specs.Entailment.{AtomBecomes, Match, HasImage}
use Rattle.cq_meaning.specs.Conflicts.{facts_in, FactsEntail, AreConsistent}
use Rattle.cq_meaning.specs.Candidates.{Every, Without, IsCause}
use Rattle.cq_meaning.specs.Rewriting.{IsSupport}
use Rattle.cq_terms.specs.Lists.{IsAscending}
use Rattle.cq_meaning.proofs.Members.{Contains-slice_get, slice_get-Contains, Contains-head, Contains-later}
use Rattle.cq_meaning.proofs.Places.{some_inj, AllZip-get_back}
use Rattle.cq_meaning.proofs.Single.{FactsEntail-mono}
use Rattle.cq_meaning.proofs.Listed.{member}
use Rattle.cq_meaning.proofs.Sameness.{cases_fact}
use Rattle.cq_meaning.proofs.Ascending.{with_property, ascending_same, All-of}
use Rattle.cq_meaning.proofs.Exact.{rewriting_sound, rewriting_complete}

-- ---- the facts of an image

pub image_has : (F : Fact → Type 0) (q : Query) (tuple : List ℕ) (image : List Fact) → Match q F tuple image → (f : Fact) → Contains image f → F f
image_has F q tuple image (v, h, b) f c = let w = slice_get-Contains image f c in
    (AllZip-get_back (λ a g. F g × AtomBecomes (λ i. Named (v i)) a (atom_of g)) q.body image b w.0 f w.1).2.0

-- a match in facts of which those of its image have a property
pub Match-image : (F G : Fact → Type 0) (q : Query) (tuple : List ℕ) (image : List Fact) → ((f : Fact) → Contains image f → F f → G f) → Match q F tuple image
    → Match q G tuple image
Match-image F G q tuple image k (v, h, b) = (v, h, go q.body image k b)
  where
    go : (body : List QAtom) (image : List Fact) → ((f : Fact) → Contains image f → F f → G f)
        → AllZip (λ a f. F f × AtomBecomes (λ i. Named (v i)) a (atom_of f)) body image
        → AllZip (λ a f. G f × AtomBecomes (λ i. Named (v i)) a (atom_of f)) body image
    go [] [] k h = tt
    go [] (f ∷ image) k h = absurd h
    go (a ∷ body) [] k h = absurd h
    go (a ∷ body) (f ∷ image) k h = ((k f (Contains-head f image) h.0.0, h.0.1), go body image (λ g c. k g (Contains-later f image g c)) h.1)

-- the number is that of a fact of the list
abbrev IsNumberOf : List Fact → List Fact → ℕ → Type 0
IsNumberOf facts image i = (f : Fact) × Contains image f × (slice_get facts i ≡ Some f)

number_or_not : (facts image : List Fact) (i : ℕ) → IsNumberOf facts image i ⊎ (IsNumberOf facts image i → ⊥)
number_or_not facts image i = go (slice_get facts i) refl
  where
    go : (o : Option Fact) → slice_get facts i ≡ o → IsNumberOf facts image i ⊎ (IsNumberOf facts image i → ⊥)
    go None e = inr (λ (f, c, d). let w = sym e ∙ d in absurd (cc))
    go (Some g) e = elim (member cases_fact g image) [
      | inl c ↦ inl (g, c, e)
      | inr n ↦ inr (λ (f, c, d). n (subst (Contains image) (some_inj (sym d ∙ e)) c))
    ]

-- each match in the table has an image
pub image_of : (facts : List Fact) (q : Query) (tuple : List ℕ) (image : List Fact) → Match q (Contains facts) tuple image
    → (numbers : List ℕ) × HasImage facts q tuple numbers × ((i : ℕ) → Contains numbers i → IsNumberOf facts image i)
image_of facts q tuple image m =
    let w = with_property (IsNumberOf facts image) (number_or_not facts image) (length facts) in
    let same : (i : ℕ) → Contains w.0 i ↔ IsNumberOf facts image i = λ i. (
      (λ c. ((w.2 i).0 c).1),
      (λ n. (w.2 i).1 (slice_get_within facts i n.0 n.2, n)),
    ) in
    (w.0, record { ascending = w.1; match = (image, m, same) }, λ i c. (same i).0 c)

-- ---- supports

module _ (kb : Knowledge) (q : Query) (tuple : List ℕ) where
  -- what a set entails has a support, whose facts are in the set
  pub support_found : (S : ℕ → Type 0) → FactsEntail kb S q tuple → (numbers : List ℕ) × IsSupport kb q tuple numbers
      × ((i : ℕ) (f : Fact) → Contains numbers i → slice_get kb.facts i ≡ Some f → facts_in kb S f)
  support_found S e =
      let w = rewriting_complete kb.axioms (facts_in kb S) q tuple e in
      let m : Match w.0 (Contains kb.facts) tuple w.1 = Match-image (facts_in kb S) (Contains kb.facts) w.0 tuple w.1
      (λ f c (i, s, d). Contains-slice_get kb.facts i f d) w.3 in
      let n = image_of kb.facts w.0 tuple w.1 m in
      (n.0, (w.0, w.2, n.1), λ i f c d. let g = n.2 i c in image_has (facts_in kb S) w.0 tuple w.1 w.3 f (subst (Contains w.1) (some_inj (sym g.2 ∙ d)) g.1))

  -- a support entails the tuple
  pub support_entails : (numbers : List ℕ) → IsSupport kb q tuple numbers → FactsEntail kb (Contains numbers) q tuple
  support_entails numbers (member, inside, h) =
      let image = h.match.0 in
      let there : (f : Fact) → Contains image f → Contains kb.facts f
      → facts_in kb (Contains numbers) f = λ f c d. let w = slice_get-Contains kb.facts f d in (w.0, (h.match.2 w.0).1 (f, c, w.1), w.1) in
      rewriting_sound kb.axioms (facts_in kb (Contains numbers)) q member tuple image inside
      (Match-image (Contains kb.facts) (facts_in kb (Contains numbers)) member tuple image there h.match.1)

  -- each number of a support is that of a fact
  pub support_within : (numbers : List ℕ) → IsSupport kb q tuple numbers → (i : ℕ) → Contains numbers i → (f : Fact) × (slice_get kb.facts i ≡ Some f)
  support_within numbers (member, inside, h) i c = let w = (h.match.2 i).0 c in (w.0, w.2)

  pub by_any_support : FactsEntail kb Every q tuple ↔ ((numbers : List ℕ) × IsSupport kb q tuple numbers)
  by_any_support = (
    (λ e. let w = support_found Every e in (w.0, w.1)),
    (λ (numbers, s). FactsEntail-mono kb q tuple (Contains numbers) Every (λ i c. tt) (support_entails numbers s)),
  )

  module _ (distinct : AreDistinct kb.facts) where
    -- where no fact stands at two places, the numbers are in the set
    pub support_in : (S : ℕ → Type 0) → FactsEntail kb S q tuple → (numbers : List ℕ) × IsSupport kb q tuple numbers × ((i : ℕ) → Contains numbers i → S i)
    support_in S e = let w = support_found S e in (w.0, w.1, λ i c. inside w.0 w.1 w.2 i c)
      where
        inside : (numbers : List ℕ) → IsSupport kb q tuple numbers → ((i : ℕ) (f : Fact) → Contains numbers i → slice_get kb.facts i ≡ Some f
            → facts_in kb S f) → (i : ℕ) → Contains numbers i → S i
        inside numbers s h i c =
            let f = support_within numbers s i c in
            let w = h i f.0 c f.1 in
            subst S (distinct w.0 i f.0 w.2 f.1) w.1

    pub by_supports : (S : ℕ → Type 0) → FactsEntail kb S q tuple ↔ ((numbers : List ℕ) × IsSupport kb q tuple numbers × All S numbers)
    by_supports S = (
      (λ e. let w = support_in S e in (w.0, w.1, All-of S w.0 w.2)),
      (λ (numbers, s, h). FactsEntail-mono kb q tuple (Contains numbers) S (λ i c. All-contains S numbers i h c) (support_entails numbers s)),
    )

    -- a cause has no smaller support
    cause_least : (numbers : List ℕ) → IsAscending numbers → IsCause kb q tuple (Contains numbers) → (smaller : List ℕ) → IsSupport kb q tuple smaller
        → ((i : ℕ) → Contains smaller i → Contains numbers i) → smaller ≡ numbers
    cause_least numbers a cause smaller s inside = ascending_same smaller numbers s.2.ascending a inside whole
      where
        whole : (i : ℕ) → Contains numbers i → Contains smaller i
        whole i c = elim (member cases_eq i smaller) [
          | inl d ↦ d
          | inr n ↦ absurd (cause.least i c (FactsEntail-mono kb q tuple (Contains smaller) (Without i (Contains numbers))
              (λ l d. (inside l d, λ e. n (subst (Contains smaller) e d))) (support_entails smaller s)))
        ]

    pub cause_is_support : (numbers : List ℕ) → IsAscending numbers → IsCause kb q tuple (Contains numbers)
        ↔ (IsSupport kb q tuple numbers × AreConsistent kb (Contains numbers)
        × ((smaller : List ℕ) → IsSupport kb q tuple smaller → All (Contains numbers) smaller → smaller ≡ numbers))
    cause_is_support numbers a = (there, back)
      where
        there : IsCause kb q tuple (Contains numbers) → IsSupport kb q tuple numbers × AreConsistent kb (Contains numbers)
            × ((smaller : List ℕ) → IsSupport kb q tuple smaller → All (Contains numbers) smaller → smaller ≡ numbers)
        there cause =
            let w = support_in (Contains numbers) cause.entails in (
              subst (IsSupport kb q tuple) (cause_least numbers a cause w.0 w.1 w.2) w.1,
              cause.consistent,
              λ smaller s h. cause_least numbers a cause smaller s (λ i c. All-contains (Contains numbers) smaller i h c),
            )

        back : IsSupport kb q tuple numbers × AreConsistent kb (Contains numbers)
            × ((smaller : List ℕ) → IsSupport kb q tuple smaller → All (Contains numbers) smaller → smaller ≡ numbers) → IsCause kb q tuple (Contains numbers)
        back (s, c, least) = record {
          consistent = c;
          entails = support_entails numbers s;
          least = λ i m e.
              let w = support_in (Without i (Contains numbers)) e in
              let d = least w.0 w.1 (All-of (Contains numbers) w.0 (λ l k. (w.2 l k).0)) in
              (w.2 i (subst (λ (xs : List ℕ). Contains xs i) (sym d) m)).1 refl;
        }
