-- Subsumption of concept names can be decided, and it tells the verdicts.
use Rattle.std.proofs.Common.{◌≡◌, ℕ, zero, suc, ◌<◌, ◌≤◌, ◌⊎◌, ◌↔◌, inl, inr, List, [], ◌∷◌, All, Contains, refl, sym, subst, ap, ◌∙◌, Bool, true, false}
use Rattle.std.proofs.Common.{◌&&◌, ◌||◌, ◌==◌, eqb-true, eq-eqb, true≢false, length, slice_get, Some, not, arith}
use Rattle.std.proofs.lemmas.Bool.{or_cases, cases_Bool}
use Rattle.std.proofs.lemmas.List.Elements.{All-contains}
use Rattle.std.proofs.lemmas.Option.{slice_get_within, slice_get_cases, get_or_from_slice_get}
use Rattle.cq_terms.specs.declared.axioms.Basic.TheVariants.{Concept, Has}
use Rattle.cq_terms.specs.declared.axioms.Axiom.{Axiom}
use Rattle.cq_terms.specs.declared.axioms.Axiom.TheVariants.{Sub, Disjoint, SubRole, DisjointRole}
use Rattle.cq_terms.specs.declared.facts.Fact.{Fact}
use Rattle.cq_terms.specs.declared.facts.Fact.TheVariants as fact
use Rattle.cq_terms.specs.declared.facts.Repairs.TheVariants as mode
use Rattle.cq_terms.specs.declared.query.Term.TheVariants.{Var}
use Rattle.cq_terms.specs.declared.query.QAtom.TheVariants as atom
use Rattle.cq_terms.specs.Knowledge.{Knowledge}
use Rattle.cq_meaning.specs.Candidates.{Every, concept_query, IsWitness}
use Rattle.cq_meaning.specs.ConceptNames.{IsOfNames, IsOfName, Includes, IsSubsumed, IsUnsatisfiable, PutsInto, PutsSafelyInto, AreApart, ClashByNames}
use Rattle.cq_meaning.specs.ConceptNames.{TellsIncluded, splits, meets, own_test, clash_test}
use Rattle.cq_meaning.specs.Conflicts.{Only, Both, FactsEntail, IsSelfInconsistent, Conflict, TellConflicts}
use Rattle.cq_meaning.specs.Laws.{VerdictsByNames}
use Rattle.cq_meaning.specs.Repairs.{IsBrave}
use Rattle.cq_meaning.proofs.Members.{Contains-head, Contains-later, Contains-cases, Contains-nil}
use Rattle.cq_meaning.proofs.Stages.{Consistent-stable}
use Rattle.cq_meaning.proofs.Extension.{AreConsistent-within, Conflict-sym, and_both, and_true, or_right}
use Rattle.cq_meaning.proofs.NameConflicts.{some_passes, passing, not_true, names_tell, name_entailed}
use Rattle.cq_meaning.proofs.Single.{brave_by_one}

-- the two names are joined by the inclusion, given which names are joined without it
abbrev pub joined_by : Axiom → (ℕ → ℕ → Bool) → ℕ → ℕ → Bool
joined_by (Sub (Concept x) (Concept y)) joined a b = joined a x && joined y b
joined_by _ joined a b = false

-- whether inclusions lead from the first name to the second
abbrev pub subsumed : List Axiom → ℕ → ℕ → Bool
subsumed [] a b = a == b
subsumed (rule ∷ rest) a b = subsumed rest a b || joined_by rule (subsumed rest) a b

-- a name subsumes itself
pub IsSubsumed-itself : (axioms : List Axiom) (a : ℕ) → IsSubsumed axioms a a
IsSubsumed-itself axioms a = (0, refl)

-- an inclusion leads one step on
pub IsSubsumed-step : (axioms : List Axiom) (a b c : ℕ) → IsSubsumed axioms a b → Contains axioms (Sub (Concept b) (Concept c)) → IsSubsumed axioms a c
IsSubsumed-step axioms a b c (n, i) m = (suc n, (b, i, m))

-- two chains of inclusions are one
pub IsSubsumed-join : (axioms : List Axiom) (a b : ℕ) → IsSubsumed axioms a b → (n c : ℕ) → Includes axioms n b c → IsSubsumed axioms a c
IsSubsumed-join axioms a b h zero c e = subst (IsSubsumed axioms a) e h
IsSubsumed-join axioms a b h (suc n) c (d, i, m) =
    IsSubsumed-step axioms a d c (IsSubsumed-join axioms a b h n d i) m

-- one more axiom breaks no chain
Includes-later : (rule : Axiom) (rest : List Axiom) (n a b : ℕ) → Includes rest n a b → Includes (rule ∷ rest) n a b
Includes-later rule rest zero a b e = e
Includes-later rule rest (suc n) a b (c, i, m) = (c, Includes-later rule rest n a c i, Contains-later rule rest _ m)

-- what the test says holds
pub subsumed_sound : (axioms : List Axiom) (a b : ℕ) → subsumed axioms a b ≡ true → IsSubsumed axioms a b
subsumed_sound [] a b t = (0, eqb-true a b t)
subsumed_sound (rule ∷ rest) a b t = go (or_cases (subsumed rest a b) (joined_by rule (subsumed rest) a b) t) (subsumed_sound rest)
  where
    later : (a b : ℕ) → IsSubsumed rest a b → IsSubsumed (rule ∷ rest) a b
    later a b (n, i) = (n, Includes-later rule rest n a b i)

    by : (r : Axiom) → r ≡ rule → ((a b : ℕ) → subsumed rest a b ≡ true → IsSubsumed rest a b) → joined_by r (subsumed rest) a b ≡ true
        → IsSubsumed (rule ∷ rest) a b
    by (Sub (Concept x) (Concept y)) e again h =
        let p = and_both (subsumed rest a x) (subsumed rest y b) h in
        let on = IsSubsumed-step (rule ∷ rest) a x y (later a x (again a x p.0)) (subst (Contains (rule ∷ rest)) (sym e) (Contains-head rule rest)) in
        let q = later y b (again y b p.1) in
        IsSubsumed-join (rule ∷ rest) a y on q.0 b q.1
    by (Sub (Concept x) (Has r)) e again h = absurd (true≢false (sym h))
    by (Sub (Has r) y) e again h = absurd (true≢false (sym h))
    by (Disjoint x y) e again h = absurd (true≢false (sym h))
    by (SubRole r q) e again h = absurd (true≢false (sym h))
    by (DisjointRole r q) e again h = absurd (true≢false (sym h))

    go : (subsumed rest a b ≡ true) ⊎ (joined_by rule (subsumed rest) a b ≡ true) → ((a b : ℕ) → subsumed rest a b ≡ true → IsSubsumed rest a b)
        → IsSubsumed (rule ∷ rest) a b
    go (inl h) again = later a b (again a b h)
    go (inr h) again = by rule refl again h

-- the chain goes without the axiom, or to it and on from it
abbrev Goes : Axiom → List Axiom → ℕ → ℕ → Type 0
Goes rule rest a b = IsSubsumed rest a b ⊎ ((x : ℕ) × (y : ℕ) × (rule ≡ Sub (Concept x) (Concept y)) × IsSubsumed rest a x × IsSubsumed rest y b)

goes : (rule : Axiom) (rest : List Axiom) (a n b : ℕ) → Includes (rule ∷ rest) n a b → Goes rule rest a b
goes rule rest a zero b e = inl (0, e)
goes rule rest a (suc n) b (c, i, m) = go (Contains-cases rule rest (Sub (Concept c) (Concept b)) m) (goes rule rest a n c i)
  where
    go : (rule ≡ Sub (Concept c) (Concept b)) ⊎ Contains rest (Sub (Concept c) (Concept b)) → Goes rule rest a c → Goes rule rest a b
    go (inl e) (inl p) = inr (c, b, e, p, (0, refl))
    go (inl e) (inr (x, y, d, p, q)) = let xc : x ≡ c = cc in inr (c, b, e, subst (IsSubsumed rest a) xc p, (0, refl))
    go (inr m) (inl p) = inl (IsSubsumed-step rest a c b p m)
    go (inr m) (inr (x, y, d, p, q)) = inr (x, y, d, p, IsSubsumed-step rest y c b q m)

or_left : (a b : Bool) → a ≡ true → (a || b) ≡ true
or_left true b e = refl
or_left false b e = absurd (true≢false (sym e))

-- what holds the test says
pub subsumed_complete : (axioms : List Axiom) (a b : ℕ) → IsSubsumed axioms a b → subsumed axioms a b ≡ true
subsumed_complete [] a b (zero, e) = eq-eqb a b e
subsumed_complete [] a b (suc n, (c, i, m)) = absurd (Contains-nil _ m)
subsumed_complete (rule ∷ rest) a b (n, i) = go (goes rule rest a n b i) (subsumed_complete rest)
  where
    go : Goes rule rest a b → ((a b : ℕ) → IsSubsumed rest a b → subsumed rest a b ≡ true) → (subsumed rest a b || joined_by rule (subsumed rest) a b) ≡ true
    go (inl p) again = or_left (subsumed rest a b) (joined_by rule (subsumed rest) a b) (again a b p)
    go (inr (x, y, e, p, q)) again =
        or_right (subsumed rest a b) (joined_by rule (subsumed rest) a b) (
        ap (λ r. joined_by r (subsumed rest) a b) e ∙ and_true (subsumed rest a x) (subsumed rest y b) (again a x p) (again y b q)
        )

module _ (kb : Knowledge) (all_names : All IsOfNames kb.axioms) (all_facts : All IsOfName kb.facts) where
  abbrev included : ℕ → ℕ → Bool
  included = subsumed kb.axioms

  names : (rule : Axiom) → Contains kb.axioms rule → IsOfNames rule
  names rule m = All-contains IsOfNames kb.axioms rule all_names m

  facts : (i : ℕ) (f : Fact) → slice_get kb.facts i ≡ Some f → IsOfName f
  facts i f e = subst IsOfName (get_or_from_slice_get kb.facts i f f e) (all_facts i f (slice_get_within kb.facts i f e))

  tells : TellsIncluded kb included
  tells i a c b e = (subsumed_sound kb.axioms a b, subsumed_complete kb.axioms a b)

  tell : TellConflicts kb (λ i. own_test included kb.axioms (slice_get kb.facts i))
      (λ i j. clash_test included kb.axioms (slice_get kb.facts i) (slice_get kb.facts j))
  tell = names_tell kb names facts included tells

  -- a name that meets itself is unsatisfiable
  met : (a : ℕ) → meets included kb.axioms a a ≡ true → IsUnsatisfiable kb.axioms a
  met a t = let w = passing (λ rule. splits included rule a a) kb.axioms t in go w.0 w.1 w.2
    where
      pair : (x y : ℕ) → Contains kb.axioms (Disjoint (Concept x) (Concept y)) → (included a x ≡ true) × (included a y ≡ true) → IsUnsatisfiable kb.axioms a
      pair x y m p = (x, y, m, subsumed_sound kb.axioms a x p.0, subsumed_sound kb.axioms a y p.1)

      go : (rule : Axiom) → Contains kb.axioms rule → splits included rule a a ≡ true → IsUnsatisfiable kb.axioms a
      go (Disjoint (Concept x) (Concept y)) m t = elim (or_cases (included a x && included a y) (included a x && included a y) t) [
        | inl h ↦ pair x y m (and_both (included a x) (included a y) h)
        | inr h ↦ pair x y m (and_both (included a x) (included a y) h)
      ]
      go (Disjoint (Concept x) (Has r)) m t = absurd (true≢false (sym t))
      go (Disjoint (Has r) y) m t = absurd (true≢false (sym t))
      go (Sub x y) m t = absurd (true≢false (sym t))
      go (SubRole r q) m t = absurd (true≢false (sym t))
      go (DisjointRole r q) m t = absurd (true≢false (sym t))

  -- and an unsatisfiable one meets itself
  meeting : (a : ℕ) → IsUnsatisfiable kb.axioms a → meets included kb.axioms a a ≡ true
  meeting a (x, y, m, p, q) =
      some_passes (λ rule. splits included rule a a) kb.axioms (Disjoint (Concept x) (Concept y)) m (
      or_left (included a x && included a y) (included a x && included a y)
      (and_true (included a x) (included a y) (subsumed_complete kb.axioms a x p) (subsumed_complete kb.axioms a y q))
      )

  -- a fact is self-inconsistent exactly where its name is unsatisfiable
  own : (i a t : ℕ) → slice_get kb.facts i ≡ Some (fact.Concept a t) → IsSelfInconsistent kb i ↔ IsUnsatisfiable kb.axioms a
  own i a t e =
      let o = tell.own_iff i (slice_get_within kb.facts i (fact.Concept a t) e) in
      let same : own_test included kb.axioms (slice_get kb.facts i) ≡ meets included kb.axioms a a = ap (own_test included kb.axioms) e in
      ((λ s. met a (sym same ∙ o.1 s)), (λ u. o.0 (same ∙ meeting a u)))

  candidate : (concept t : ℕ) → FactsEntail kb Every (concept_query concept) (t ∷ []) ↔ ((i : ℕ) × PutsInto kb concept t i)
  candidate concept t = (to, from)
    where
      to : FactsEntail kb Every (concept_query concept) (t ∷ []) → (i : ℕ) × PutsInto kb concept t i
      to h =
          let w = (name_entailed kb names facts included tells Every concept 0 t).0 h in
          (w.0, (w.1, w.3, subsumed_sound kb.axioms w.1 concept w.4))

      from : (i : ℕ) × PutsInto kb concept t i → FactsEntail kb Every (concept_query concept) (t ∷ [])
      from (i, (a, e, s)) =
          (name_entailed kb names facts included tells Every concept 0 t).1 (i, a, tt, e, subsumed_complete kb.axioms a concept s)

  witness : (concept t i : ℕ) → IsWitness kb (concept_query concept) (t ∷ []) i ↔ PutsSafelyInto kb concept t i
  witness concept t i = (to, from)
    where
      to : IsWitness kb (concept_query concept) (t ∷ []) i → PutsSafelyInto kb concept t i
      to (l, c, h) =
          let w = (name_entailed kb names facts included tells (Only i) concept 0 t).0 h in
          let e : slice_get kb.facts i ≡ Some (fact.Concept w.1 t) = subst (λ j. slice_get kb.facts j ≡ Some (fact.Concept w.1 t)) w.2 w.3 in
          (w.1, e, subsumed_sound kb.axioms w.1 concept w.4, λ u. (own i w.1 t e).1 u c)

      from : PutsSafelyInto kb concept t i → IsWitness kb (concept_query concept) (t ∷ []) i
      from (a, e, s, safe) = (
        slice_get_within kb.facts i (fact.Concept a t) e,
        Consistent-stable kb.axioms _ (λ s. safe ((own i a t e).0 s)),
        (name_entailed kb names facts included tells (Only i) concept 0 t).1 (i, a, refl, e, subsumed_complete kb.axioms a concept s),
      )

  brave : (concept t : ℕ) → IsBrave kb mode.All (concept_query concept) (t ∷ []) ↔ ((i : ℕ) × IsWitness kb (concept_query concept) (t ∷ []) i)
  brave concept t =
      let b = brave_by_one kb _ _ tell (Var 0 ∷ []) (atom.Concept concept (Var 0)) (t ∷ []) in
      ((λ h. let w = b.0 h in (w.0, (w.1, w.2, w.3))), (λ w. b.1 (w.0, w.1.0, w.1.1, w.1.2)))

  -- the verdicts of concept names
  pub verdicts_by_names : (concept t : ℕ) → VerdictsByNames kb concept t
  verdicts_by_names concept t = record {
    candidate = candidate concept t;
    witness = witness concept t;
    brave = brave concept t;
  }

  -- names that meet are apart
  apart : (a b : ℕ) → meets included kb.axioms a b ≡ true → AreApart kb.axioms a b
  apart a b t = let w = passing (λ rule. splits included rule a b) kb.axioms t in go w.0 w.1 w.2
    where
      go : (rule : Axiom) → Contains kb.axioms rule → splits included rule a b ≡ true → AreApart kb.axioms a b
      go (Disjoint (Concept x) (Concept y)) m t = elim (or_cases (included a x && included b y) (included b x && included a y) t) [
        | inl h ↦ let p = and_both (included a x) (included b y) h in (x, y, subsumed_sound kb.axioms a x p.0, subsumed_sound kb.axioms b y p.1, inl m)
        | inr h ↦ let p = and_both (included b x) (included a y) h in (y, x, subsumed_sound kb.axioms a y p.1, subsumed_sound kb.axioms b x p.0, inr m)
      ]
      go (Disjoint (Concept x) (Has r)) m t = absurd (true≢false (sym t))
      go (Disjoint (Has r) y) m t = absurd (true≢false (sym t))
      go (Sub x y) m t = absurd (true≢false (sym t))
      go (SubRole r q) m t = absurd (true≢false (sym t))
      go (DisjointRole r q) m t = absurd (true≢false (sym t))

  -- and names that are apart meet
  meeting_apart : (a b : ℕ) → AreApart kb.axioms a b → meets included kb.axioms a b ≡ true
  meeting_apart a b (x, y, p, q, inl m) =
      some_passes (λ rule. splits included rule a b) kb.axioms (Disjoint (Concept x) (Concept y)) m (
      or_left (included a x && included b y) (included b x && included a y)
      (and_true (included a x) (included b y) (subsumed_complete kb.axioms a x p) (subsumed_complete kb.axioms b y q))
      )
  meeting_apart a b (x, y, p, q, inr m) =
      some_passes (λ rule. splits included rule a b) kb.axioms (Disjoint (Concept y) (Concept x)) m (
      or_right (included a y && included b x) (included b y && included a x)
      (and_true (included b y) (included a x) (subsumed_complete kb.axioms b y q) (subsumed_complete kb.axioms a x p))
      )

  -- a number in a conflict is that of a fact
  conflict_within : (i j : ℕ) → Conflict kb i j → i < length kb.facts
  conflict_within i j w = elim (slice_get_cases kb.facts i).1 [
    | inl p ↦ p.1
    | inr p ↦ absurd (w.together (AreConsistent-within kb (Both i j) (Only j) (λ l k s. here l k p.0 s) w.right))
  ]
    where
      here : (l : ℕ) → l < length kb.facts → length kb.facts ≤ i → (l ≡ i) ⊎ (l ≡ j) → l ≡ j
      here l k p (inl e) = absurd (omega (arith, k, p, e))
      here l k p (inr e) = e

  -- the fact of a number
  fact_at : (i : ℕ) → i < length kb.facts → (a : ℕ) × (t : ℕ) × (slice_get kb.facts i ≡ Some (fact.Concept a t))
  fact_at i l = elim (slice_get_cases kb.facts i).1 [
    | inl p ↦ named p.0 (facts i p.0 p.2) p.2
    | inr p ↦ absurd (omega (arith, l, p.0))
  ]
    where
      named : (f : Fact) → IsOfName f → slice_get kb.facts i ≡ Some f → (a : ℕ) × (t : ℕ) × (slice_get kb.facts i ≡ Some (fact.Concept a t))
      named (fact.Concept a t) u e = (a, t, e)
      named (fact.Link p c d) u e = absurd u

  -- the test of two facts, by their names
  test_of : (i j a b t u : ℕ) → slice_get kb.facts i ≡ Some (fact.Concept a t) → slice_get kb.facts j ≡ Some (fact.Concept b u)
      → clash_test included kb.axioms (slice_get kb.facts i) (slice_get kb.facts j)
      ≡ (t == u && (not (meets included kb.axioms a a) && (not (meets included kb.axioms b b) && meets included kb.axioms a b)))
  test_of i j a b t u e d = ap (λ o. clash_test included kb.axioms o (slice_get kb.facts j)) e ∙ ap (clash_test included kb.axioms (Some (fact.Concept a t))) d

  safe_not_met : (a : ℕ) → ¬ IsUnsatisfiable kb.axioms a → not (meets included kb.axioms a a) ≡ true
  safe_not_met a safe = elim (cases_Bool (meets included kb.axioms a a)) [ inl t ↦ absurd (safe (met a t)) | inr f ↦ ap not f ]

  -- two facts conflict exactly where they clash by their names
  pub conflicts_by_names : (i j : ℕ) → Conflict kb i j ↔ ClashByNames kb i j
  conflicts_by_names i j = (to, from)
    where
      of_test : (a b t u : ℕ) → slice_get kb.facts i ≡ Some (fact.Concept a t) → slice_get kb.facts j ≡ Some (fact.Concept b u) → Conflict kb i j
          → (t == u && (not (meets included kb.axioms a a) && (not (meets included kb.axioms b b) && meets included kb.axioms a b))) ≡ true
          → ClashByNames kb i j
      of_test a b t u e d w h =
          let p = and_both (t == u) (not (meets included kb.axioms a a) && (not (meets included kb.axioms b b) && meets included kb.axioms a b)) h in
          let q = and_both (not (meets included kb.axioms a a)) (not (meets included kb.axioms b b) && meets included kb.axioms a b) p.1 in
          let r = and_both (not (meets included kb.axioms b b)) (meets included kb.axioms a b) q.1 in
          record {
            different = w.different;
            left = a;
            right = b;
            individual = t;
            left_fact = e;
            right_fact = d ∙ ap (λ v. Some (fact.Concept b v)) (sym (eqb-true t u p.0));
            left_satisfiable = λ s. true≢false (sym (meeting a s) ∙ not_true (meets included kb.axioms a a) q.0);
            right_satisfiable = λ s. true≢false (sym (meeting b s) ∙ not_true (meets included kb.axioms b b) r.0);
            apart = apart a b r.1;
          }

      to : Conflict kb i j → ClashByNames kb i j
      to w =
          let il = conflict_within i j w in
          let jl = conflict_within j i (Conflict-sym kb i j w) in
          let f = fact_at i il in
          let g = fact_at j jl in
          of_test f.0 g.0 f.1 g.1 f.2 g.2 w (sym (test_of i j f.0 g.0 f.1 g.1 f.2 g.2) ∙ (tell.clash_iff i j il jl).1 w)

      from : ClashByNames kb i j → Conflict kb i j
      from w =
          let il = slice_get_within kb.facts i (fact.Concept w.left w.individual) w.left_fact in
          let jl = slice_get_within kb.facts j (fact.Concept w.right w.individual) w.right_fact in
          let a = w.left in
          let b = w.right in
          let same : (w.individual == w.individual) ≡ true = eq-eqb w.individual w.individual refl in
          let h = and_true (w.individual == w.individual) (not (meets included kb.axioms a a)
          && (not (meets included kb.axioms b b) && meets included kb.axioms a b)) same
          (and_true (not (meets included kb.axioms a a)) (not (meets included kb.axioms b b) && meets included kb.axioms a b)
          (safe_not_met a w.left_satisfiable)
          (and_true (not (meets included kb.axioms b b)) (meets included kb.axioms a b) (safe_not_met b w.right_satisfiable) (meeting_apart a b w.apart))) in
          (tell.clash_iff i j il jl).0 (test_of i j a b w.individual w.individual w.left_fact w.right_fact ∙ h)
