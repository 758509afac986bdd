-- The closures of the first axioms.
use Rattle.std.proofs.Common.{◌≡◌, ℕ, suc, ◌<◌, ◌≤◌, List, [], ◌∷◌, ◌++◌, length, Contains, ◌⊎◌, inl, inr, slice_get, Some, None, sym, ap, ◌∙◌, subst, arith}
use Rattle.std.proofs.Common.{AllPairs}
use Rattle.std.specs.List.{All}
use Rattle.std.proofs.lemmas.Bool.{cases_lt}
use Rattle.std.proofs.lemmas.List.{length-map}
use Rattle.std.proofs.lemmas.Option.{slice_get_within}
use Rattle.std.proofs.lemmas.List.Elements.{All-contains}
use Rattle.std.proofs.lemmas.List.Quantifiers.{all_pairs_push}
use Rattle.cq_terms.specs.declared.axioms.Axiom.{Axiom}
use Rattle.cq_terms.specs.Query.{Query}
use Rattle.cq_meaning.specs.Rewriting.{disjointness_query, IsClosure, IsInClosure}
use Rattle.cq_meaning.proofs.Members.{Contains-cases, Contains-nil, Contains-one}
use Rattle.cq_meaning.proofs.Listed.{append_left, append_right, append_cases}
use Rattle.cq_meaning.proofs.Places.{some_inj}
use Rattle.cq_meaning.proofs.Ascending.{All-of}
use Rattle.cq_steps.specs.declared.closure.Member.{Member}
use Rattle.cq_steps.specs.Closing.{Closes, queries_of}
use Rattle.cq_steps.specs.Derivation.{IsDerivation}
use Rattle.perfect_ref.specs.BreadthFirst.{HasMoreThan}
use Rattle.conflict_finder.specs.Finding.{Forbids, AreClosures, IsClosureOf, IsFirstTooLarge, NoneTooLarge}
use Rattle.conflict_finder.proofs.Pigeons.{not_longer}

-- a closure within the limit isn't too large
pub closure_fits : (axioms : List Axiom) (q : Query) (members : List Member) (limit : ℕ) → IsClosure axioms q (queries_of members) → length members ≤ limit
    → HasMoreThan axioms q limit → ⊥
closure_fits axioms q members limit is few more =
    let within = not_longer more.items (queries_of members) more.apart (λ r c. (is r).1 (All-contains (IsInClosure axioms q) more.items r more.each c)) in
    omega (arith, within, few, more.longer, length-map members (λ (m : Member). m.query))

-- the closures of the first axioms, none too large
pub record AreFirstClosures (axioms : List Axiom) (limit i : ℕ) (closures : List (ℕ × List Member)) : Type 0 where
  pub each : All (λ c. (q : Query) × Forbids axioms c.0 q × Closes axioms q c.1) closures
  pub complete : (n : ℕ) (q : Query) → n < i → Forbids axioms n q → (members : List Member) × Contains closures (n, members)
  pub ascending : AllPairs (λ c d. c.0 < d.0) closures
  pub below : All (λ c. c.0 < i) closures
  pub derived : All (λ c. IsDerivation c.1) closures
  pub fit : (n : ℕ) (q : Query) → n < i → Forbids axioms n q → HasMoreThan axioms q limit → ⊥

module _ (axioms : List Axiom) (limit : ℕ) where
  pub first_none : AreFirstClosures axioms limit 0 []
  first_none = record {
    each = λ k d l. absurd (omega arith);
    complete = λ n q l f. absurd (omega arith);
    ascending = λ i j d ij l. absurd (omega arith);
    below = λ k d l. absurd (omega arith);
    derived = λ k d l. absurd (omega arith);
    fit = λ n q l f m. omega arith;
  }

  one_rule : (n : ℕ) (a b : Axiom) → slice_get axioms n ≡ Some a → slice_get axioms n ≡ Some b → a ≡ b
  one_rule n a b e f = some_inj (sym e ∙ f)

  module _ (i : ℕ) (rule : Axiom) (at : slice_get axioms i ≡ Some rule) (closures : List (ℕ × List Member))
      (so : AreFirstClosures axioms limit i closures) where
    below_more : All (λ (c : ℕ × List Member). c.0 < suc i) closures
    below_more = All-of (λ (c : ℕ × List Member). c.0 < suc i) closures
        (λ c there. let l = All-contains (λ (d : ℕ × List Member). d.0 < i) closures c so.below there in omega (arith, l))

    rule_is : (n : ℕ) (q : Query) → n ≡ i → Forbids axioms n q → disjointness_query rule ≡ Some q
    rule_is n q e (r, g, d) = ap disjointness_query (sym (one_rule i r rule (subst (λ k. slice_get axioms k ≡ Some r) e g) at)) ∙ d

    pub first_inclusion : IsClosureOf axioms rule limit None → AreFirstClosures axioms limit (suc i) closures
    first_inclusion none = record {
      each = so.each;
      complete = λ n q l f. by n q f (cases_lt n i) l;
      ascending = so.ascending;
      below = below_more;
      derived = so.derived;
      fit = λ n q l f m. fit n q f m (cases_lt n i) l;
    }
      where
        never : (n : ℕ) (q : Query) → n ≡ i → Forbids axioms n q → ⊥
        never n q e f = let d = sym none ∙ rule_is n q e f in cc

        by : (n : ℕ) (q : Query) → Forbids axioms n q → (n < i) ⊎ (i ≤ n) → n < suc i → (members : List Member) × Contains closures (n, members)
        by n q f (inl l) k = so.complete n q l f
        by n q f (inr l) k = absurd (never n q (omega arith) f)

        fit : (n : ℕ) (q : Query) → Forbids axioms n q → HasMoreThan axioms q limit → (n < i) ⊎ (i ≤ n) → n < suc i → ⊥
        fit n q f m (inl l) k = so.fit n q l f m
        fit n q f m (inr l) k = never n q (omega arith) f

    pub first_disjointness : (members : List Member) → IsClosureOf axioms rule limit (Some members)
        → AreFirstClosures axioms limit (suc i) (closures ++ (i, members) ∷ [])
    first_disjointness members (q, d, closes, whole, within) = record {
      derived = All-of (λ (c : ℕ × List Member). IsDerivation c.1) (closures ++ (i, members) ∷ [])
          (λ c there. sound c (append_cases closures ((i, members) ∷ []) c there));
      each = All-of (λ (c : ℕ × List Member). (p : Query) × Forbids axioms c.0 p × Closes axioms p c.1) (closures ++ (i, members) ∷ [])
          (λ c there. each c (append_cases closures ((i, members) ∷ []) c there));
      complete = λ n p l f. by n p f (cases_lt n i) l;
      ascending = all_pairs_push (λ (c e : ℕ × List Member). c.0 < e.0) closures (i, members) so.ascending so.below;
      below = All-of (λ (c : ℕ × List Member). c.0 < suc i) (closures ++ (i, members) ∷ [])
          (λ c there. low c (append_cases closures ((i, members) ∷ []) c there));
      fit = λ n p l f m. fit n p f m (cases_lt n i) l;
    }
      where
        each : (c : ℕ × List Member) → Contains closures c ⊎ Contains ((i, members) ∷ []) c → (p : Query) × Forbids axioms c.0 p × Closes axioms p c.1
        each c (inl there) = All-contains (λ (e : ℕ × List Member). (p : Query) × Forbids axioms e.0 p × Closes axioms p e.1) closures c so.each there
        each c (inr there) = elim (Contains-cases (i, members) [] c there) [
          | inl e ↦ subst (λ (x : ℕ × List Member). (p : Query) × Forbids axioms x.0 p × Closes axioms p x.1) e (q, (rule, at, d), closes)
          | inr z ↦ absurd (Contains-nil c z)
        ]

        sound : (c : ℕ × List Member) → Contains closures c ⊎ Contains ((i, members) ∷ []) c → IsDerivation c.1
        sound c (inl there) = All-contains (λ (e : ℕ × List Member). IsDerivation e.1) closures c so.derived there
        sound c (inr there) = elim (Contains-cases (i, members) [] c there) [
          | inl e ↦ subst (λ (x : ℕ × List Member). IsDerivation x.1) e whole
          | inr z ↦ absurd (Contains-nil c z)
        ]

        low : (c : ℕ × List Member) → Contains closures c ⊎ Contains ((i, members) ∷ []) c → c.0 < suc i
        low c (inl there) = All-contains (λ (e : ℕ × List Member). e.0 < suc i) closures c below_more there
        low c (inr there) = elim (Contains-cases (i, members) [] c there) [
          | inl e ↦ subst (λ (x : ℕ × List Member). x.0 < suc i) e (omega arith)
          | inr z ↦ absurd (Contains-nil c z)
        ]

        by : (n : ℕ) (p : Query) → Forbids axioms n p → (n < i) ⊎ (i ≤ n) → n < suc i → (ms : List Member) × Contains (closures ++ (i, members) ∷ []) (n, ms)
        by n p f (inl l) k = let w = so.complete n p l f in (w.0, append_left closures ((i, members) ∷ []) (n, w.0) w.1)
        by n p f (inr l) k = let e : n ≡ i = omega arith in (
          members,
          append_right closures ((i, members) ∷ []) (n, members) (Contains-one (i, members) (n, members) (ap (λ j. (j, members)) e)),
        )

        fit : (n : ℕ) (p : Query) → Forbids axioms n p → HasMoreThan axioms p limit → (n < i) ⊎ (i ≤ n) → n < suc i → ⊥
        fit n p f m (inl l) k = so.fit n p l f m
        fit n p f m (inr l) k = let same : q ≡ p = some_inj (sym d ∙ rule_is n p (omega arith) f) in
            within (subst (λ (x : Query). HasMoreThan axioms x limit) (sym same) m)

    pub too_large : (n : ℕ) → (n ≡ i) × ((q : Query) × (disjointness_query rule ≡ Some q) × HasMoreThan axioms q limit) → IsFirstTooLarge axioms limit n
    too_large n (e, (q, d, m)) = subst (IsFirstTooLarge axioms limit) (sym e)
        (record { query = q; forbids = (rule, at, d); larger = m; earlier = λ k p l f. so.fit k p l f })

  pub first_all : (i : ℕ) → length axioms ≤ i → (closures : List (ℕ × List Member)) → AreFirstClosures axioms limit i closures → AreClosures axioms closures
  first_all i l closures so = record {
    each = so.each;
    complete = λ n q f. so.complete n q (let k = slice_get_within axioms n f.0 f.1 in omega (arith, k, l)) f;
    ascending = so.ascending;
  }

  pub first_fit : (i : ℕ) → length axioms ≤ i → (closures : List (ℕ × List Member)) → AreFirstClosures axioms limit i closures → NoneTooLarge axioms limit
  first_fit i l closures so n q f = so.fit n q (let k = slice_get_within axioms n f.0 f.1 in omega (arith, k, l)) f
