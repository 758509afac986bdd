-- The candidates of the second worked report with their causes, what its queries match with, and that its blocks are closed.
use Rattle.std.proofs.Common.{◌≡◌, ℕ, zero, suc, ◌<◌, inl, inr, List, [], ◌∷◌, Contains, Some, slice_get, ◌==◌, eqb-true, IsTrue, ◌↔◌, refl, sym, subst, ap}
use Rattle.std.proofs.Common.{◌∙◌, arith}
use Rattle.std.proofs.lemmas.Bool.{cases_eq}
use Rattle.std.proofs.lemmas.List.Elements.{All-contains, All-from_recursion}
use Rattle.std.proofs.lemmas.List.Kept.{AllPairs-cons}
use Rattle.std.specs.Ordering.{nat_cmp}
use Rattle.std.specs.declared.cmp.Ordering.TheVariants.{Less}
use Rattle.std.specs.Cmp.Lexicographic.{slice_cmp}
use Rattle.cq_terms.specs.declared.axioms.Axiom.{Axiom}
use Rattle.cq_terms.specs.declared.axioms.Axiom.TheVariants.{Sub, Disjoint, SubRole, DisjointRole}
use Rattle.cq_terms.specs.declared.facts.Fact.{Fact}
use Rattle.cq_terms.specs.declared.facts.Fact.TheVariants as fact
use Rattle.cq_terms.specs.declared.facts.Repairs.TheVariants as mode
use Rattle.cq_terms.specs.declared.query.Term.{Term}
use Rattle.cq_terms.specs.declared.query.Term.TheVariants.{Var}
use Rattle.cq_terms.specs.declared.query.QAtom.{QAtom}
use Rattle.cq_terms.specs.declared.query.QAtom.TheVariants as atom
use Rattle.cq_terms.specs.Query.{Query}
use Rattle.cq_meaning.specs.Chase.{Named}
use Rattle.cq_meaning.specs.Conflicts.{FactsEntail}
use Rattle.cq_meaning.specs.Candidates.{AreCandidates, AreCauses, IsCause, Every, Without}
use Rattle.cq_meaning.specs.Entailment.{HasImage}
use Rattle.cq_terms.specs.Lists.{IsAscending}
use Rattle.cq_meaning.specs.Rewriting.{IsAxiomStep, IsUnified, IsSuccessor}
use Rattle.cq_meaning.proofs.Members.{Contains-head, Contains-later, Contains-cases, Contains-nil, Contains-one, Contains-slice_get}
use Rattle.cq_meaning.proofs.NameConflicts.{name_entailed}
use Rattle.priority_graph.specs.Priority.{Conflict}
use Rattle.report_rules.specs.Blocks.{IsClosedBlock}
use Rattle.report_laws.specs.AtStanding.{Candidate, AreCandidatesOf}
use Rattle.report_laws.specs.LearningExample.{crowded_register, who_in_a, both_names}
use Rattle.report_laws.proofs.BaseClauseLemmas.{means}
use Rattle.report_laws.proofs.ListLemmas.{only_one}
use Rattle.report_laws.proofs.LearningTable.{names, IsDisjointness, no_inclusion, facts, tells, couple_clashes, priority, is_priority}

-- ---- candidates

-- the individual is in A by the set exactly where the set has a fact that says so
in_a : (S : ℕ → Type 0) (t : ℕ) → FactsEntail crowded_register S who_in_a (t ∷ [])
    ↔ ((i : ℕ) × (a : ℕ) × S i × (slice_get crowded_register.facts i ≡ Some (fact.Concept a t)) × IsTrue (a == 0))
in_a S t = name_entailed crowded_register names facts (λ a b. a == b) tells S 0 0 t

pub no_pairs : (i j : ℕ) → i < j → j < 1 → ⊥
no_pairs i j a b = omega arith

pub one_ascends : (x : ℕ) → IsAscending (x ∷ [])
one_ascends x i j d a b = absurd (no_pairs i j a b)

abbrev tuples : List (List ℕ)
tuples = (0 ∷ []) ∷ (1 ∷ []) ∷ []

-- the individual of each fact is in the list
abbrev IsNamed : Fact → Type 0
IsNamed (fact.Concept a c) = Contains tuples (c ∷ [])
IsNamed (fact.Link p c d) = Unit {0}

first_named : Contains tuples (0 ∷ [])
first_named = Contains-head (0 ∷ []) ((1 ∷ []) ∷ [])

second_named : Contains tuples (1 ∷ [])
second_named = Contains-later (0 ∷ []) ((1 ∷ []) ∷ []) (1 ∷ []) (Contains-head (1 ∷ []) [])

named : (i : ℕ) (f : Fact) → slice_get crowded_register.facts i ≡ Some f → IsNamed f
named i f e = All-contains IsNamed crowded_register.facts f (All-from_recursion IsNamed crowded_register.facts
    (first_named, (first_named, (first_named, (first_named, (second_named, tt)))))) (Contains-slice_get crowded_register.facts i f e)

each_named : (tuple : List ℕ) → FactsEntail crowded_register Every who_in_a tuple → Contains tuples tuple
each_named [] (k, (v, h, b)) = absurd h
each_named (c ∷ []) e = let (i, a, s, at, t) = (in_a Every c).0 e in named i (fact.Concept a c) at
each_named (c ∷ d ∷ more) (k, (v, (h, u), b)) = absurd u

pub candidates : AreCandidates crowded_register who_in_a tuples
candidates = record {
  entailed = All-from_recursion (FactsEntail crowded_register Every who_in_a) tuples
      ((in_a Every 0).1 (0, 0, tt, refl, refl), ((in_a Every 1).1 (4, 0, tt, refl, refl), tt));
  complete = each_named;
  ascending = AllPairs-cons (λ a b. slice_cmp nat_cmp a b ≡ Less) (0 ∷ []) ((1 ∷ []) ∷ [])
      (All-from_recursion (λ b. slice_cmp nat_cmp (0 ∷ []) b ≡ Less) ((1 ∷ []) ∷ []) (refl, tt)) (λ i j d a b. absurd (no_pairs i j a b));
}

-- ---- causes

-- the only fact that puts the individual in A is its one cause
module _ (t i : ℕ) (at : slice_get crowded_register.facts i ≡ Some (fact.Concept 0 t))
    (only : (j : ℕ) → slice_get crowded_register.facts j ≡ Some (fact.Concept 0 t) → j ≡ i) where
  entailing : (S : ℕ → Type 0) → FactsEntail crowded_register S who_in_a (t ∷ []) → S i
  entailing S e =
      let (j, a, s, here, z) = (in_a S t).0 e in
      subst S (only j (here ∙ ap (λ (x : ℕ). Some (fact.Concept x t)) (eqb-true a 0 z))) s

  entailed : (S : ℕ → Type 0) → S i → FactsEntail crowded_register S who_in_a (t ∷ [])
  entailed S s = (in_a S t).1 (i, 0, s, at, refl)

  itself : (a b : ℕ) → a ≡ i → b ≡ i → Conflict priority a b → ⊥
  itself a b d e (inl m) = let w = (couple_clashes a b m).0 in omega arith
  itself a b d e (inr m) = let w = (couple_clashes b a m).0 in omega arith

  is_cause : IsCause crowded_register who_in_a (t ∷ []) (Contains (i ∷ []))
  is_cause = record {
    consistent = ((means crowded_register mode.Pareto priority is_priority).free_list (i ∷ [])).0
        (record { own = λ j m. Contains-nil j; pairs = λ a b m k. itself a b (sym (only_one i a m)) (sym (only_one i b k)) });
    entails = entailed (Contains (i ∷ [])) (Contains-head i []);
    least = λ j m e. (entailing (Without j (Contains (i ∷ []))) e).1 (only_one i j m);
  }

  alone : (c : List ℕ) → IsAscending c → Contains c i → ((k : ℕ) → Contains c k → k ≡ i) → i ∷ [] ≡ c
  alone [] up m all = absurd (Contains-nil i m)
  alone (x ∷ []) up m all = ap (λ (z : ℕ). z ∷ []) (sym (only_one x i m))
  alone (x ∷ y ∷ c) up m all =
      let l : x < y = up 0 1 0 (omega arith) (omega arith) in
      let d : x ≡ i = all x (Contains-head x (y ∷ c)) in
      let e : y ≡ i = all y (Contains-later x (y ∷ c) y (Contains-head y c)) in
      absurd (omega arith)

  cause_is : (c : List ℕ) → IsAscending c → IsCause crowded_register who_in_a (t ∷ []) (Contains c) → i ∷ [] ≡ c
  cause_is c up w = alone c up there each
    where
      there : Contains c i
      there = entailing (Contains c) w.entails

      each : (k : ℕ) → Contains c k → k ≡ i
      each k m = elim (cases_eq k i) [ inl e ↦ e | inr n ↦ absurd (w.least k m (entailed (Without k (Contains c)) (there, λ e. n (sym e)))) ]

  causes : AreCauses crowded_register who_in_a (t ∷ []) ((i ∷ []) ∷ [])
  causes = record {
    each = All-from_recursion (λ c. IsAscending c × IsCause crowded_register who_in_a (t ∷ []) (Contains c)) ((i ∷ []) ∷ []) ((one_ascends i, is_cause), tt);
    complete = λ c up w. Contains-one (i ∷ []) c (sym (cause_is c up w));
    ascending = λ i j d a b. absurd (no_pairs i j a b);
  }

-- the number of a fact
abbrev number_of : Fact → ℕ
number_of (fact.Concept a zero) = a
number_of (fact.Concept a (suc c)) = 4
number_of (fact.Link p c d) = 0

some_fact : (f g : Fact) → Some f ≡ Some g → f ≡ g
some_fact f g e = cc

fact_number : (i : ℕ) (f : Fact) → slice_get crowded_register.facts i ≡ Some f → i ≡ number_of f
fact_number zero f e = ap number_of (some_fact (fact.Concept 0 0) f e)
fact_number (suc zero) f e = ap number_of (some_fact (fact.Concept 1 0) f e)
fact_number (suc (suc zero)) f e = ap number_of (some_fact (fact.Concept 2 0) f e)
fact_number (suc (suc (suc zero))) f e = ap number_of (some_fact (fact.Concept 3 0) f e)
fact_number (suc (suc (suc (suc zero)))) f e = ap number_of (some_fact (fact.Concept 0 1) f e)
fact_number (suc (suc (suc (suc (suc i))))) f e = absurd (cc)

abbrev pub all_candidates : List Candidate
all_candidates = record { tuple = 0 ∷ []; causes = (0 ∷ []) ∷ [] } ∷ record { tuple = 1 ∷ []; causes = (4 ∷ []) ∷ [] } ∷ []

pub candidates_are : AreCandidatesOf crowded_register who_in_a all_candidates
candidates_are = record {
  tuples = candidates;
  causes = All-from_recursion (λ (c : Candidate). AreCauses crowded_register who_in_a c.tuple c.causes) all_candidates
      (causes 0 0 refl (λ j e. fact_number j (fact.Concept 0 0) e), (causes 1 4 refl (λ j e. fact_number j (fact.Concept 0 1) e), tt));
}

-- ---- images

-- the query of A has the fact as its image
pub image_of_one : (t i : ℕ) → slice_get crowded_register.facts i ≡ Some (fact.Concept 0 t) → HasImage crowded_register.facts who_in_a (t ∷ []) (i ∷ [])
image_of_one t i at = record {
  ascending = one_ascends i;
  match = (
    fact.Concept 0 t ∷ [],
    ((λ x. t), (refl, tt), ((Contains-slice_get crowded_register.facts i (fact.Concept 0 t) at, (Named t, refl, refl)), tt)),
    λ n. (to n, λ h. from n h.0 (only_one (fact.Concept 0 t) h.0 h.1) h.2),
  );
}
  where
    to : (n : ℕ) → Contains (i ∷ []) n → (f : Fact) × Contains (fact.Concept 0 t ∷ []) f × (slice_get crowded_register.facts n ≡ Some f)
    to n m = (
      fact.Concept 0 t,
      Contains-head (fact.Concept 0 t) [],
      subst (λ (k : ℕ). slice_get crowded_register.facts k ≡ Some (fact.Concept 0 t)) (only_one i n m) at,
    )

    from : (n : ℕ) (f : Fact) → fact.Concept 0 t ≡ f → slice_get crowded_register.facts n ≡ Some f → Contains (i ∷ []) n
    from n f d e = Contains-one i n (fact_number n f e ∙ sym (ap number_of d) ∙ sym (fact_number i (fact.Concept 0 t) at))

-- the query of two concept names has their two facts as its image
pub image_of_two : (i j : ℕ) → i < j → slice_get crowded_register.facts i ≡ Some (fact.Concept i 0)
    → slice_get crowded_register.facts j ≡ Some (fact.Concept j 0) → HasImage crowded_register.facts (both_names i j) [] (i ∷ j ∷ [])
image_of_two i j l at here = record {
  ascending = AllPairs-cons (λ a b. a < b) i (j ∷ []) (All-from_recursion (λ b. i < b) (j ∷ []) (l, tt)) (one_ascends j);
  match = (
    fact.Concept i 0 ∷ fact.Concept j 0 ∷ [],
    (
      (λ x. 0),
      tt,
      (
        (Contains-slice_get crowded_register.facts i (fact.Concept i 0) at, (Named 0, refl, refl)),
        ((Contains-slice_get crowded_register.facts j (fact.Concept j 0) here, (Named 0, refl, refl)), tt),
      ),
    ),
    λ n. (to n, λ h. from n h.0 h.1 h.2),
  );
}
  where
    to : (n : ℕ) → Contains (i ∷ j ∷ []) n → (f : Fact) × Contains (fact.Concept i 0 ∷ fact.Concept j 0 ∷ []) f × (slice_get crowded_register.facts n ≡ Some f)
    to n m = elim (Contains-cases i (j ∷ []) n m) [
      | inl e ↦ (
        fact.Concept i 0,
        Contains-head (fact.Concept i 0) (fact.Concept j 0 ∷ []),
        subst (λ (k : ℕ). slice_get crowded_register.facts k ≡ Some (fact.Concept i 0)) e at,
      )
      | inr k ↦ (
        fact.Concept j 0,
        Contains-later (fact.Concept i 0) (fact.Concept j 0 ∷ []) (fact.Concept j 0) (Contains-head (fact.Concept j 0) []),
        subst (λ (k : ℕ). slice_get crowded_register.facts k ≡ Some (fact.Concept j 0)) (only_one j n k) here,
      )
    ]

    from : (n : ℕ) (f : Fact) → Contains (fact.Concept i 0 ∷ fact.Concept j 0 ∷ []) f → slice_get crowded_register.facts n ≡ Some f → Contains (i ∷ j ∷ []) n
    from n f m e = elim (Contains-cases (fact.Concept i 0) (fact.Concept j 0 ∷ []) f m) [
      | inl d ↦ subst (Contains (i ∷ j ∷ [])) (ap number_of d ∙ sym (fact_number n f e)) (Contains-head i (j ∷ []))
      | inr k ↦ subst (Contains (i ∷ j ∷ [])) (ap number_of (only_one (fact.Concept j 0) f k) ∙ sym (fact_number n f e))
          (Contains-later i (j ∷ []) j (Contains-head j []))
    ]

-- ---- closed blocks

-- no axiom is an inclusion, so none has a step
no_step : (rule : Axiom) (x y : QAtom) → Contains crowded_register.axioms rule → IsAxiomStep rule x y → ⊥
no_step rule x y m s = go rule (no_inclusion rule m) s
  where
    go : (rule : Axiom) → IsDisjointness rule → IsAxiomStep rule x y → ⊥
    go (Disjoint b c) d s = s
    go (Sub b c) d s = d
    go (SubRole r q) d s = d
    go (DisjointRole r q) d s = s

none_past : (a : QAtom) (i : ℕ) (x : QAtom) → slice_get (a ∷ []) (suc i) ≡ Some x → ⊥
none_past a i x e = cc

none_past_two : (a b : QAtom) (i : ℕ) (x : QAtom) → slice_get (a ∷ b ∷ []) (suc (suc i)) ≡ Some x → ⊥
none_past_two a b i x e = cc

one_some : (x y : QAtom) → Some x ≡ Some y → x ≡ y
one_some x y e = cc

-- two atoms of different predicates have no reduce step
unlike : (a b : ℕ) (s t : Term) → (a ≡ b → ⊥) → (x y : QAtom) (f : Term → Term) (z : QAtom) → atom.Concept a s ≡ x → atom.Concept b t ≡ y → IsUnified x y f z
    → ⊥
unlike a b s t n x y f z e d u = n (subst (λ w. IsUnified w (atom.Concept b t) f z) (sym e) (subst (λ w. IsUnified x w f z) (sym d) u)).0

pub query_closed : IsClosedBlock crowded_register.axioms (who_in_a ∷ [])
query_closed p q m s = absurd (none q (subst (λ (z : Query). IsSuccessor crowded_register.axioms z q) (sym (only_one who_in_a p m)) s))
  where
    none : (q : Query) → IsSuccessor crowded_register.axioms who_in_a q → ⊥
    none q (inl (i, n, (rule, p, k, (x, y, g, s, f), e))) = no_step rule x y (Contains-slice_get crowded_register.axioms n rule k) s
    none q (inr (i, zero, (p, (x, y, f, z, l, g, g', u, w), e))) = omega arith
    none q (inr (i, suc j, (p, (x, y, f, z, l, g, g', u, w), e))) = none_past (atom.Concept 0 (Var 0)) j y g'

pub block_closed : (a b : ℕ) → (a ≡ b → ⊥) → IsClosedBlock crowded_register.axioms (both_names a b ∷ [])
block_closed a b differ p q m s = absurd (none q (subst (λ (z : Query). IsSuccessor crowded_register.axioms z q) (sym (only_one (both_names a b) p m)) s))
  where
    none : (q : Query) → IsSuccessor crowded_register.axioms (both_names a b) q → ⊥
    none q (inl (i, n, (rule, p, k, (x, y, g, s, f), e))) = no_step rule x y (Contains-slice_get crowded_register.axioms n rule k) s
    none q (inr (i, zero, (p, (x, y, f, z, l, g, g', u, w), e))) = omega arith
    none q (inr (zero, suc zero, (p, (x, y, f, z, l, g, g', u, w), e))) =
        unlike a b (Var 0) (Var 0) differ x y f z (one_some (atom.Concept a (Var 0)) x g) (one_some (atom.Concept b (Var 0)) y g') u
    none q (inr (suc i, suc zero, (p, (x, y, f, z, l, g, g', u, w), e))) = omega arith
    none q (inr (i, suc (suc j), (p, (x, y, f, z, l, g, g', u, w), e))) = none_past_two (atom.Concept a (Var 0)) (atom.Concept b (Var 0)) j y g'
