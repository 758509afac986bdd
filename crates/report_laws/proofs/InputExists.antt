-- Each priority is that of some knowledge base: a fact of a concept of its own for each number, and a disjointness for each clash.
use Rattle.std.proofs.Common.{◌≡◌, ℕ, zero, suc, ◌<◌, ◌+◌, ◌⊎◌, ◌↔◌, inl, inr, List, [], ◌∷◌, ◌++◌, length, map, Contains, Bool, true, false, not, ◌&&◌, ◌||◌}
use Rattle.std.proofs.Common.{◌==◌, Some, slice_get, eqb-true, eq-eqb, true≢false, refl, sym, subst, ap, ◌∙◌, arith}
use Rattle.std.proofs.lemmas.Bool.{cases_Bool, or_cases}
use Rattle.std.proofs.lemmas.List.Elements.{All-contains}
use Rattle.std.proofs.lemmas.Option.{slice_get_within}
use Rattle.cq_terms.specs.declared.axioms.Basic.TheVariants.{Concept}
use Rattle.cq_terms.specs.declared.axioms.Axiom.{Axiom}
use Rattle.cq_terms.specs.declared.axioms.Axiom.TheVariants.{Sub, Disjoint}
use Rattle.cq_terms.specs.declared.facts.Fact.{Fact}
use Rattle.cq_terms.specs.declared.facts.Fact.TheVariants as fact
use Rattle.cq_terms.specs.declared.facts.Repairs.TheVariants as modes
use Rattle.cq_terms.specs.Knowledge.{Knowledge}
use Rattle.cq_meaning.specs.Conflicts as meaning
use Rattle.cq_meaning.specs.Conflicts.{IsSelfInconsistent, TellConflicts}
use Rattle.cq_meaning.specs.ConceptNames.{IsOfNames, IsOfName, Includes, TellsIncluded, splits, meets, own_test, clash_test}
use Rattle.cq_meaning.specs.Repairs as repairs
use Rattle.cq_meaning.proofs.ByLists.{Conflict-within}
use Rattle.cq_meaning.proofs.Extension as extension
use Rattle.cq_meaning.proofs.Extension.{and_both, and_true, or_right}
use Rattle.cq_meaning.proofs.Listed.{append_left, append_right, append_cases}
use Rattle.cq_meaning.proofs.NameConflicts.{not_true, some_passes, passing, names_tell}
use Rattle.clause_meaning.proofs.Members.{Contains-map, Contains-map_cases}
use Rattle.priority_graph.specs.Priority.{Priority, IsPriority, Conflict, IsBetter}
use Rattle.priority_graph.specs.Inputs.{IsPriorityOf}
use Rattle.priority_graph.proofs.DirectLemmas.{Conflict-sym, conflict_below}

-- ---- the facts

-- so many facts, each of the concept of its number
facts_from : ℕ → ℕ → List Fact
facts_from a zero = []
facts_from a (suc n) = fact.Concept a 0 ∷ facts_from (suc a) n

length-facts_from : (a n : ℕ) → length (facts_from a n) ≡ n
unfolding facts_from
length-facts_from a zero = refl
length-facts_from a (suc n) = ap suc (length-facts_from (suc a) n)

slice_get-facts_from : (a n i : ℕ) → i < n → slice_get (facts_from a n) i ≡ Some (fact.Concept (a + i) 0)
unfolding facts_from
slice_get-facts_from a zero i l = absurd (omega arith)
slice_get-facts_from a (suc n) zero l = let e : a ≡ a + 0 = omega arith in ap (λ x. Some (fact.Concept x 0)) e
slice_get-facts_from a (suc n) (suc i) l = let e : suc a + i ≡ a + suc i = omega arith in
    slice_get-facts_from (suc a) n i (omega arith) ∙ ap (λ x. Some (fact.Concept x 0)) e

-- ---- the axioms

rule_of : ℕ → ℕ → Axiom
rule_of i j = Disjoint (Concept i) (Concept j)

rules_of : List ℕ → List (ℕ × ℕ) → List Axiom
rules_of own couples = map (λ (i : ℕ). rule_of i i) own ++ map (λ (c : ℕ × ℕ). rule_of c.0 c.1) couples

same_rule : (i j x y : ℕ) → rule_of i j ≡ rule_of x y → (i ≡ x) × (j ≡ y)
unfolding rule_of
same_rule i j x y e = (cc, cc)

module _ (p : Priority) (h : IsPriority p) where
  base : Knowledge
  base = record { axioms = rules_of p.own p.couples; facts = facts_from 0 p.facts; pairs = p.pairs }

  -- each axiom is the disjointness of a self-inconsistent fact's concept with itself, or of two concepts of facts in conflict
  rule_cases : (rule : Axiom) → Contains (rules_of p.own p.couples) rule → ((i : ℕ) × Contains p.own i × (rule ≡ rule_of i i))
      ⊎ ((i : ℕ) × (j : ℕ) × Contains p.couples (i, j) × (rule ≡ rule_of i j))
  unfolding rules_of
  rule_cases rule m = elim (append_cases (map (λ (i : ℕ). rule_of i i) p.own) (map (λ (c : ℕ × ℕ). rule_of c.0 c.1) p.couples) rule m) [
    | inl k ↦ (let (i, o, e) = Contains-map_cases (λ (i : ℕ). rule_of i i) p.own rule k in inl (i, o, sym e))
    | inr k ↦ (let (c, o, e) = Contains-map_cases (λ (c : ℕ × ℕ). rule_of c.0 c.1) p.couples rule k in inr (c.0, c.1, o, sym e))
  ]

  own_rule : (i : ℕ) → Contains p.own i → Contains (rules_of p.own p.couples) (rule_of i i)
  unfolding rules_of
  own_rule i o = append_left (map (λ (i : ℕ). rule_of i i) p.own) (map (λ (c : ℕ × ℕ). rule_of c.0 c.1) p.couples) (rule_of i i)
      (Contains-map (λ (i : ℕ). rule_of i i) p.own i o)

  couple_rule : (i j : ℕ) → Contains p.couples (i, j) → Contains (rules_of p.own p.couples) (rule_of i j)
  unfolding rules_of
  couple_rule i j o = append_right (map (λ (i : ℕ). rule_of i i) p.own) (map (λ (c : ℕ × ℕ). rule_of c.0 c.1) p.couples) (rule_of i j)
      (Contains-map (λ (c : ℕ × ℕ). rule_of c.0 c.1) p.couples (i, j) o)

  names : (rule : Axiom) → Contains base.axioms rule → IsOfNames rule
  unfolding base rule_of
  names rule m = elim (rule_cases rule m) [
    | inl (i, o, e) ↦ subst IsOfNames (sym e) tt
    | inr (i, j, o, e) ↦ subst IsOfNames (sym e) tt
  ]

  no_inclusion : (a b : ℕ) → Contains base.axioms (Sub (Concept a) (Concept b)) → ⊥
  unfolding base rule_of
  no_inclusion a b m = elim (rule_cases (Sub (Concept a) (Concept b)) m) [
    | inl (i, o, e) ↦ absurd (cc)
    | inr (i, j, o, e) ↦ absurd (cc)
  ]

  -- the fact of a number
  fact_at : (i : ℕ) → i < p.facts → slice_get base.facts i ≡ Some (fact.Concept i 0)
  unfolding base
  fact_at i l = let e : 0 + i ≡ i = omega arith in slice_get-facts_from 0 p.facts i l ∙ ap (λ x. Some (fact.Concept x 0)) e

  count : length base.facts ≡ p.facts
  unfolding base
  count = length-facts_from 0 p.facts

  facts : (i : ℕ) (f : Fact) → slice_get base.facts i ≡ Some f → IsOfName f
  facts i f e =
      let l : i < p.facts = subst (λ n. i < n) count (slice_get_within base.facts i f e) in
      let same : Some (fact.Concept i 0) ≡ Some f = sym (fact_at i l) ∙ e in
      let is : fact.Concept i 0 ≡ f = cc in
      subst IsOfName is tt

  tells : TellsIncluded base (λ a b. a == b)
  tells i a c b e = ((λ t. (0, eqb-true a b t)), (λ (n, w). from n w))
    where
      from : (n : ℕ) → Includes base.axioms n a b → (a == b) ≡ true
      from zero w = eq-eqb a b w
      from (suc n) (x, w, m) = absurd (no_inclusion x b m)

  told : TellConflicts base (λ i. own_test (λ a b. a == b) base.axioms (slice_get base.facts i))
      (λ i j. clash_test (λ a b. a == b) base.axioms (slice_get base.facts i) (slice_get base.facts j))
  told = names_tell base names facts (λ a b. a == b) tells

  -- which concepts are apart
  apart : ℕ → ℕ → Bool
  apart a b = meets (λ a b. a == b) base.axioms a b

  or_left : (a b : Bool) → a ≡ true → (a || b) ≡ true
  or_left true b e = refl
  or_left false b e = absurd (true≢false (sym e))

  apart_by : (x y : ℕ) → Contains (rules_of p.own p.couples) (rule_of x y) → (apart x y ≡ true) × (apart y x ≡ true)
  unfolding base rule_of apart
  apart_by x y m = (
    some_passes (λ rule. splits (λ a b. a == b) rule x y) (rules_of p.own p.couples) (rule_of x y) m
        (or_left (x == x && y == y) (y == x && x == y) (and_true (x == x) (y == y) (eq-eqb x x refl) (eq-eqb y y refl))),
    some_passes (λ rule. splits (λ a b. a == b) rule y x) (rules_of p.own p.couples) (rule_of x y) m
        (or_right (y == x && x == y) (x == x && y == y) (and_true (x == x) (y == y) (eq-eqb x x refl) (eq-eqb y y refl))),
  )

  split_by : (x y a b : ℕ) → splits (λ a b. a == b) (rule_of x y) a b ≡ true → ((a ≡ x) × (b ≡ y)) ⊎ ((b ≡ x) × (a ≡ y))
  unfolding rule_of
  split_by x y a b t = elim (or_cases (a == x && b == y) (b == x && a == y) t) [
    | inl k ↦ (let w = and_both (a == x) (b == y) k in inl (eqb-true a x w.0, eqb-true b y w.1))
    | inr k ↦ (let w = and_both (b == x) (a == y) k in inr (eqb-true b x w.0, eqb-true a y w.1))
  ]

  apart_cases : (a b : ℕ) → apart a b ≡ true → ((a ≡ b) × Contains p.own a) ⊎ Conflict p a b
  unfolding base apart
  apart_cases a b t = go w.0 w.2 (rule_cases w.0 w.1)
    where
      w : (rule : Axiom) × Contains (rules_of p.own p.couples) rule × (splits (λ a b. a == b) rule a b ≡ true)
      w = passing (λ rule. splits (λ a b. a == b) rule a b) (rules_of p.own p.couples) t

      moved : (i j a b : ℕ) → a ≡ i → b ≡ j → Contains p.couples (i, j) → Contains p.couples (a, b)
      moved i j a b e f o = subst (λ x. Contains p.couples (a, x)) (sym f) (subst (λ x. Contains p.couples (x, j)) (sym e) o)

      go : (rule : Axiom) → splits (λ a b. a == b) rule a b ≡ true → ((i : ℕ) × Contains p.own i × (rule ≡ rule_of i i))
          ⊎ ((i : ℕ) × (j : ℕ) × Contains p.couples (i, j) × (rule ≡ rule_of i j)) → ((a ≡ b) × Contains p.own a) ⊎ Conflict p a b
      go rule s (inl (i, o, e)) = elim (split_by i i a b (subst (λ r. splits (λ a b. a == b) r a b ≡ true) e s)) [
        | inl k ↦ inl (k.0 ∙ sym k.1, subst (Contains p.own) (sym k.0) o)
        | inr k ↦ inl (k.1 ∙ sym k.0, subst (Contains p.own) (sym k.1) o)
      ]
      go rule s (inr (i, j, o, e)) = elim (split_by i j a b (subst (λ r. splits (λ a b. a == b) r a b ≡ true) e s)) [
        | inl k ↦ inr (inl (moved i j a b k.0 k.1 o))
        | inr k ↦ inr (inr (moved i j b a k.0 k.1 o))
      ]

  own_apart : (i : ℕ) → Contains p.own i ↔ (apart i i ≡ true)
  own_apart i = ((λ o. (apart_by i i (own_rule i o)).0), (λ t. elim (apart_cases i i t) [ inl k ↦ k.1 | inr c ↦ absurd (itself c) ]))
    where
      less : (i : ℕ) → Contains p.couples (i, i) → ⊥
      less i m = let w = All-contains (λ (c : ℕ × ℕ). (c.0 < c.1) × (c.1 < p.facts)) p.couples (i, i) h.couples_known m in let l = w.0 in omega arith

      itself : Conflict p i i → ⊥
      itself (inl m) = less i m
      itself (inr m) = less i m

  own_exact : (i : ℕ) → i < p.facts → Contains p.own i ↔ IsSelfInconsistent base i
  unfolding apart
  own_exact i l = (
    (λ o. (told.own_iff i within).0 (same ∙ (own_apart i).0 o)),
    (λ s. (own_apart i).1 (sym same ∙ (told.own_iff i within).1 s)),
  )
    where
      within : i < length base.facts
      within = subst (λ n. i < n) (sym count) l

      same : own_test (λ a b. a == b) base.axioms (slice_get base.facts i) ≡ apart i i
      same = ap (own_test (λ a b. a == b) base.axioms) (fact_at i l)

  not_apart : (i : ℕ) → ¬ Contains p.own i → not (apart i i) ≡ true
  not_apart i n = elim (cases_Bool (apart i i)) [ inl t ↦ absurd (n ((own_apart i).1 t)) | inr f ↦ ap not f ]

  conflict_exact : (i j : ℕ) → i < p.facts → j < p.facts → Conflict p i j ↔ meaning.Conflict base i j
  unfolding apart
  conflict_exact i j l k = (
    (λ c. (told.clash_iff i j (within i l) (within j k)).0 (same
        ∙ and_true (not (apart i i)) (not (apart j j) && apart i j) (not_apart i (λ o. h.apart i j o c))
        (and_true (not (apart j j)) (apart i j) (not_apart j (λ o. h.apart j i o (Conflict-sym p i j c))) (met c)))),
    (λ w. from (sym same ∙ (told.clash_iff i j (within i l) (within j k)).1 w)),
  )
    where
      within : (i : ℕ) → i < p.facts → i < length base.facts
      within i l = subst (λ n. i < n) (sym count) l

      same : clash_test (λ a b. a == b) base.axioms (slice_get base.facts i) (slice_get base.facts j) ≡ (not (apart i i) && (not (apart j j) && apart i j))
      same = ap (λ o. clash_test (λ a b. a == b) base.axioms o (slice_get base.facts j)) (fact_at i l)
          ∙ ap (clash_test (λ a b. a == b) base.axioms (Some (fact.Concept i 0))) (fact_at j k)

      met : Conflict p i j → apart i j ≡ true
      met (inl m) = (apart_by i j (couple_rule i j m)).0
      met (inr m) = (apart_by j i (couple_rule j i m)).1

      from : (not (apart i i) && (not (apart j j) && apart i j)) ≡ true → Conflict p i j
      from t =
          let u = and_both (not (apart i i)) (not (apart j j) && apart i j) t in
          let w = and_both (not (apart j j)) (apart i j) u.1 in
          elim (apart_cases i j w.1) [
            | inl o ↦ absurd (true≢false (sym ((own_apart i).0 o.1) ∙ not_true (apart i i) u.0))
            | inr c ↦ c
          ]

  below : (i : ℕ) → i < length base.facts → i < p.facts
  below i l = subst (λ n. i < n) count l

  meant : (i j : ℕ) → Conflict p i j → meaning.Conflict base i j
  meant i j c = (conflict_exact i j (conflict_below p h j i (Conflict-sym p i j c)) (conflict_below p h i j c)).0 c

  conflicts : meaning.AreConflicts base p.own p.couples
  conflicts = record {
    owns_exact = λ i. (
      (λ o. let l = All-contains (λ (i : ℕ). i < p.facts) p.own i h.own_known o in (subst (λ n. i < n) (sym count) l, (own_exact i l).0 o)),
      (λ w. (own_exact i (below i w.0)).1 w.1),
    );
    pairs_exact = λ i j. (
      (λ m. ((All-contains (λ (c : ℕ × ℕ). (c.0 < c.1) × (c.1 < p.facts)) p.couples (i, j) h.couples_known m).0, meant i j (inl m))),
      (λ w. ordered i j w.0 ((conflict_exact i j (below i (Conflict-within base i j w.1))
          (below j (Conflict-within base j i (extension.Conflict-sym base i j w.1)))).1 w.1)),
    );
    owns_ascending = h.own_ascending;
    pairs_ascending = h.couples_ascending;
  }
    where
      ordered : (i j : ℕ) → i < j → Conflict p i j → Contains p.couples (i, j)
      ordered i j l (inl m) = m
      ordered i j l (inr m) = absurd (let w = All-contains (λ (c : ℕ × ℕ). (c.0 < c.1) × (c.1 < p.facts)) p.couples (j, i) h.couples_known m in let k = w.0 in
          omega arith)

  -- it is the priority of the knowledge base in mode `pareto`, and in mode `all` where nothing is better
  pub has_input : (kb : Knowledge) × IsPriorityOf kb modes.Pareto p × (((i j : ℕ) → ¬ IsBetter p i j) → IsPriorityOf kb modes.All p)
  unfolding base
  has_input = (
    base,
    record {
      facts = sym count;
      conflicts = conflicts;
      better = λ i j.
          ((λ b. record { ranked = not_all; listed = listed i j b; conflict = meant i j (h.conflicting i j b) }), (λ w. unlisted i j w.listed));
    },
    (λ none. record { facts = sym count; conflicts = conflicts; better = λ i j. ((λ b. absurd (none i j b)), (λ w. absurd (w.ranked refl))) }),
  )
    where
      not_all : modes.Pareto ≡ modes.All → ⊥
      not_all e = cc

      listed : (i j : ℕ) → IsBetter p i j → repairs.IsListed base.pairs i j
      listed i j b = b

      unlisted : (i j : ℕ) → repairs.IsListed base.pairs i j → IsBetter p i j
      unlisted i j b = b
