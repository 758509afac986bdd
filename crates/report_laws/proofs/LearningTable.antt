-- The register of the second worked report: its conflicts, its priority and its base clauses.
use Rattle.std.proofs.Common.{◌≡◌, ℕ, zero, suc, ◌<◌, ◌⊎◌, inl, inr, List, [], ◌∷◌, ◌++◌, map, filter, Contains, Bool, true, false, true≢false, not, ◌&&◌}
use Rattle.std.proofs.Common.{◌||◌, ◌==◌, eqb-true, eq-eqb, Some, slice_get, nat_lt, refl, sym, subst, ap, ◌∙◌, arith}
use Rattle.std.specs.List.{list_any, list_all}
use Rattle.std.proofs.lemmas.Bool.{or_cases, ltb-true}
use Rattle.std.proofs.lemmas.List.Elements.{All-contains, All-from_recursion}
use Rattle.cq_terms.specs.declared.axioms.Basic.TheVariants.{Concept}
use Rattle.cq_terms.specs.declared.axioms.Axiom.{Axiom}
use Rattle.cq_terms.specs.declared.axioms.Axiom.TheVariants.{Sub, Disjoint}
use Rattle.cq_terms.specs.declared.facts.Fact.{Fact}
use Rattle.cq_terms.specs.declared.facts.Pair.{Pair}
use Rattle.cq_terms.specs.declared.facts.Repairs.TheVariants as mode
use Rattle.cq_terms.specs.Conflicts.{IsBefore}
use Rattle.cq_meaning.specs.ConceptNames.{IsOfNames, IsOfName, Includes, TellsIncluded, own_test, clash_test}
use Rattle.cq_meaning.specs.Conflicts.{TellConflicts, AreConflicts}
use Rattle.cq_meaning.specs.Conflicts as meaning
use Rattle.cq_meaning.specs.Repairs as repairs
use Rattle.cq_meaning.proofs.ByLists.{Conflict-within}
use Rattle.cq_meaning.proofs.Extension as extension
use Rattle.cq_meaning.proofs.Extension.{and_both}
use Rattle.cq_meaning.proofs.Listed.{append_left, append_right, append_cases}
use Rattle.cq_meaning.proofs.Members.{Contains-nil, Contains-slice_get}
use Rattle.cq_meaning.proofs.NameConflicts.{not_true, names_tell, passing, some_passes}
use Rattle.clause_meaning.proofs.Members.{Contains-map, Contains-map_cases}
use Rattle.priority_graph.specs.Priority.{Priority, IsBetter}
use Rattle.priority_graph.specs.Inputs.{IsPriorityOf}
use Rattle.priority_graph.specs.Split.{has}
use Rattle.priority_graph.proofs.SplitLemmas.{has_there}
use Rattle.repair_clauses.specs.BaseClauses.{Blocks, IsBlockingClause, IsFactClause, conflict_clause, present}
use Rattle.repair_clauses.proofs.LawLemmas.{fact_clause_unique}
use Rattle.report_rules.specs.ConflictLists.{AreConflictLists}
use Rattle.report_laws.specs.LiveLists.{IsClauseOf, AreClausesBelow, AreBaseClauses}
use Rattle.report_laws.specs.LearningExample.{crowded_register}
use Rattle.report_laws.proofs.ListLemmas.{Contains-filter, filter-Contains}
use Rattle.report_laws.proofs.LiveListLemmas.{base_by_facts}
use Rattle.report_laws.proofs.PropagationTests.{every, all_pairs, pairs_by_test}
use Rattle.report_laws.proofs.TestLemmas.{Tells, tells_either, tells_both, tells_not}

-- ---- the five facts

abbrev pub numbers : List ℕ
numbers = 0 ∷ 1 ∷ 2 ∷ 3 ∷ 4 ∷ []

pub below_five : (P : ℕ → Type 0) → P 0 → P 1 → P 2 → P 3 → P 4 → (i : ℕ) → i < 5 → P i
below_five P a b c d e zero l = a
below_five P a b c d e (suc zero) l = b
below_five P a b c d e (suc (suc zero)) l = c
below_five P a b c d e (suc (suc (suc zero))) l = d
below_five P a b c d e (suc (suc (suc (suc zero)))) l = e
below_five P a b c d e (suc (suc (suc (suc (suc i))))) l = absurd (omega arith)

numbered : (i : ℕ) → i < 5 → Contains numbers i
numbered i l = has_there numbers i (below_five (λ i. has numbers i ≡ true) refl refl refl refl refl i l)

number_below : (i : ℕ) → Contains numbers i → i < 5
number_below i m = All-contains (λ i. i < 5) numbers i (All-from_recursion (λ i. i < 5) numbers
    (omega arith, (omega arith, (omega arith, (omega arith, (omega arith, tt)))))) m

-- a test of two facts that is passed by all
square : (t : ℕ → ℕ → Bool) → list_all (λ i. list_all (t i) numbers) numbers ≡ true → (i j : ℕ) → i < 5 → j < 5 → t i j ≡ true
square t e i j l k = every (t i) numbers (every (λ i. list_all (t i) numbers) numbers e i (numbered i l)) j (numbered j k)

-- ---- conflicts

pub names : (rule : Axiom) → Contains crowded_register.axioms rule → IsOfNames rule
names rule m = All-contains IsOfNames crowded_register.axioms rule (All-from_recursion IsOfNames crowded_register.axioms (tt, (tt, (tt, (tt, (tt, tt)))))) m

abbrev pub IsDisjointness : Axiom → Type 0
IsDisjointness (Disjoint x y) = Unit {0}
IsDisjointness _ = ⊥

pub no_inclusion : (rule : Axiom) → Contains crowded_register.axioms rule → IsDisjointness rule
no_inclusion rule m = All-contains IsDisjointness crowded_register.axioms rule
    (All-from_recursion IsDisjointness crowded_register.axioms (tt, (tt, (tt, (tt, (tt, tt)))))) m

pub facts : (i : ℕ) (f : Fact) → slice_get crowded_register.facts i ≡ Some f → IsOfName f
facts i f e = All-contains IsOfName crowded_register.facts f (All-from_recursion IsOfName crowded_register.facts (tt, (tt, (tt, (tt, (tt, tt))))))
    (Contains-slice_get crowded_register.facts i f e)

pub tells : TellsIncluded crowded_register (λ a b. a == b)
tells i a c b e = ((λ t. (0, eqb-true a b t)), (λ (n, w). from n w))
  where
    from : (n : ℕ) → Includes crowded_register.axioms n a b → (a == b) ≡ true
    from zero w = eq-eqb a b w
    from (suc n) (x, w, m) = absurd (no_inclusion (Sub (Concept x) (Concept b)) m)

-- whether two facts conflict, and whether one is self-inconsistent
abbrev clash : ℕ → ℕ → Bool
clash i j = clash_test (λ a b. a == b) crowded_register.axioms (slice_get crowded_register.facts i) (slice_get crowded_register.facts j)

abbrev own : ℕ → Bool
own i = own_test (λ a b. a == b) crowded_register.axioms (slice_get crowded_register.facts i)

told : TellConflicts crowded_register own clash
told = names_tell crowded_register names facts (λ a b. a == b) tells

pub conflict : (i j : ℕ) → i < 5 → j < 5 → clash i j ≡ true → meaning.Conflict crowded_register i j
conflict i j l k t = (told.clash_iff i j l k).0 t

-- the pairs in conflict
abbrev pub couples : List (ℕ × ℕ)
couples = (0, 1) ∷ (0, 2) ∷ (1, 2) ∷ (1, 3) ∷ (2, 3) ∷ []

abbrev is_couple : ℕ → ℕ → Bool
is_couple i j = list_any (λ (c : ℕ × ℕ). c.0 == i && c.1 == j) couples

couple_there : (i j : ℕ) → is_couple i j ≡ true → Contains couples (i, j)
couple_there i j t =
    let (c, m, e) = passing (λ (c : ℕ × ℕ). c.0 == i && c.1 == j) couples t in
    let w = and_both (c.0 == i) (c.1 == j) e in
    subst (λ (x : ℕ). Contains couples (x, j)) (eqb-true c.0 i w.0) (subst (λ (y : ℕ). Contains couples (c.0, y)) (eqb-true c.1 j w.1) m)

couple_true : (i j : ℕ) → Contains couples (i, j) → is_couple i j ≡ true
couple_true i j m = some_passes (λ (c : ℕ × ℕ). c.0 == i && c.1 == j) couples (i, j) m (ap (λ b. b && j == j) (eq-eqb i i refl) ∙ eq-eqb j j refl)

abbrev IsClash : ℕ × ℕ → Type 0
IsClash c = (c.0 < c.1) × (c.1 < 5) × meaning.Conflict crowded_register c.0 c.1

pub couple_clashes : (i j : ℕ) → Contains couples (i, j) → (i < j) × (j < 5) × meaning.Conflict crowded_register i j
couple_clashes i j m = All-contains IsClash couples (i, j) (All-from_recursion IsClash couples (
  (omega arith, omega arith, conflict 0 1 (omega arith) (omega arith) refl),
  (
    (omega arith, omega arith, conflict 0 2 (omega arith) (omega arith) refl),
    (
      (omega arith, omega arith, conflict 1 2 (omega arith) (omega arith) refl),
      (
        (omega arith, omega arith, conflict 1 3 (omega arith) (omega arith) refl),
        ((omega arith, omega arith, conflict 2 3 (omega arith) (omega arith) refl), tt),
      ),
    ),
  ),
)) m

-- facts in conflict are a pair of the list
pub paired : (i j : ℕ) → meaning.Conflict crowded_register i j → Contains couples (i, j) ⊎ Contains couples (j, i)
paired i j c = elim (or_cases (not (clash i j)) (is_couple i j || is_couple j i)
    (square (λ i j. not (clash i j) || (is_couple i j || is_couple j i)) refl i j l k)) [
      | inl n ↦ absurd (true≢false (sym ((told.clash_iff i j l k).1 c) ∙ not_true (clash i j) n))
      | inr t ↦ elim (or_cases (is_couple i j) (is_couple j i) t) [ inl u ↦ inl (couple_there i j u) | inr u ↦ inr (couple_there j i u) ]
    ]
  where
    l : i < 5
    l = Conflict-within crowded_register i j c

    k : j < 5
    k = Conflict-within crowded_register j i (extension.Conflict-sym crowded_register i j c)

pub conflicts : AreConflicts crowded_register [] couples
conflicts = record {
  owns_exact = λ i. ((λ m. absurd (Contains-nil i m)), (λ w. absurd (none i w.0 ((told.own_iff i w.0).1 w.1))));
  pairs_exact = λ i j. ((λ m. let w = couple_clashes i j m in (w.0, w.2)), (λ w. ordered i j w.0 (paired i j w.1)));
  owns_ascending = λ i j d a b. absurd (omega arith);
  pairs_ascending = pairs_by_test before IsBefore before_is couples refl;
}
  where
    none : (i : ℕ) → i < 5 → own i ≡ true → ⊥
    none i l t = true≢false (sym t ∙ below_five (λ i. own i ≡ false) refl refl refl refl refl i l)

    ordered : (i j : ℕ) → i < j → Contains couples (i, j) ⊎ Contains couples (j, i) → Contains couples (i, j)
    ordered i j l (inl m) = m
    ordered i j l (inr m) = let k = (couple_clashes j i m).0 in absurd (omega arith)

    before : ℕ × ℕ → ℕ × ℕ → Bool
    before p r = nat_lt p.0 r.0 || (p.0 == r.0 && nat_lt p.1 r.1)

    before_is : (p r : ℕ × ℕ) → before p r ≡ true → IsBefore p r
    before_is p r t = elim (or_cases (nat_lt p.0 r.0) (p.0 == r.0 && nat_lt p.1 r.1) t) [
      | inl u ↦ inl (ltb-true p.0 r.0 u)
      | inr u ↦ (let w = and_both (p.0 == r.0) (nat_lt p.1 r.1) u in inr (eqb-true p.0 r.0 w.0, ltb-true p.1 r.1 w.1))
    ]

pub conflict_lists : AreConflictLists crowded_register ((0 ∷ 1 ∷ []) ∷ (0 ∷ 2 ∷ []) ∷ (1 ∷ 2 ∷ []) ∷ (1 ∷ 3 ∷ []) ∷ (2 ∷ 3 ∷ []) ∷ [])
conflict_lists = ([], couples, conflicts, refl)

-- ---- the priority

abbrev pub priority : Priority
priority = record { facts = 5; own = []; couples = couples; pairs = crowded_register.pairs }

pub better : (i j : ℕ) → IsBetter priority i j → repairs.IsBetter crowded_register mode.Pareto i j
better i j b = record {
  ranked = λ e. absurd (cc);
  listed = b;
  conflict =
      All-contains Clash crowded_register.pairs (record { upper = i; lower = j })
      (All-from_recursion Clash crowded_register.pairs (conflict 1 2 (omega arith) (omega arith) refl, (conflict 3 1 (omega arith) (omega arith) refl, tt))) b;
}
  where
    Clash : Pair → Type 0
    Clash q = meaning.Conflict crowded_register q.upper q.lower

pub is_priority : IsPriorityOf crowded_register mode.Pareto priority
is_priority = record { facts = refl; conflicts = conflicts; better = λ i j. (better i j, λ w. w.listed) }

-- ---- base clauses

abbrev is_better : ℕ → ℕ → Bool
is_better i j = list_any (λ (q : Pair). q.upper == i && q.lower == j) crowded_register.pairs

tells_couple : (i j : ℕ) → Tells (is_couple i j) (Contains couples (i, j))
tells_couple i j = (couple_there i j, couple_true i j)

tells_better : (i j : ℕ) → Tells (is_better i j) (IsBetter priority i j)
tells_better i j = (
  to,
  λ m. some_passes (λ (q : Pair). q.upper == i && q.lower == j) crowded_register.pairs (record { upper = i; lower = j }) m
      (ap (λ b. b && j == j) (eq-eqb i i refl) ∙ eq-eqb j j refl),
)
  where
    to : is_better i j ≡ true → IsBetter priority i j
    to t =
        let (q, m, e) = passing (λ (q : Pair). q.upper == i && q.lower == j) crowded_register.pairs t in
        let w = and_both (q.upper == i) (q.lower == j) e in
        subst (λ (x : ℕ). IsBetter priority x j) (eqb-true q.upper i w.0) (subst (λ (y : ℕ). IsBetter priority q.upper y) (eqb-true q.lower j w.1) m)

-- whether the clause of the first fact says that the second is present
abbrev speaks : ℕ → ℕ → Bool
speaks i j = j == i || ((is_couple i j || is_couple j i) && not (is_better i j))

tells_speaks : (i j : ℕ) → Tells (speaks i j) ((j ≡ i) ⊎ Blocks priority i j)
tells_speaks i j = tells_either (j == i) ((is_couple i j || is_couple j i) && not (is_better i j)) (eqb-true j i, eq-eqb j i)
    (tells_both (is_couple i j || is_couple j i) (not (is_better i j)) (tells_either (is_couple i j) (is_couple j i) (tells_couple i j) (tells_couple j i))
    (tells_not (is_better i j) (tells_better i j)))

abbrev pub clause_at : ℕ → List ℕ
clause_at i = map present (filter (speaks i) numbers)

blocking : (i : ℕ) → i < 5 → IsBlockingClause priority i (clause_at i)
blocking i l = record {
  ascending = pairs_by_test nat_lt (λ a b. a < b) ltb-true (clause_at i) (below_five (λ i. all_pairs nat_lt (clause_at i) ≡ true) refl refl refl refl refl i l);
  exact = λ k. (
    to k,
    λ (f, s, e). subst (Contains (clause_at i)) (sym e)
        (Contains-map present (filter (speaks i) numbers) f (filter-Contains (speaks i) numbers f (numbered f (below f s)) ((tells_speaks i f).1 s))),
  );
}
  where
    below : (f : ℕ) → (f ≡ i) ⊎ Blocks priority i f → f < 5
    below f (inl e) = omega arith
    below f (inr (inl m, n)) = (couple_clashes i f m).1
    below f (inr (inr m, n)) = let w = couple_clashes f i m in let a = w.0 in let b = w.1 in omega arith

    to : (k : ℕ) → Contains (clause_at i) k → (f : ℕ) × ((f ≡ i) ⊎ Blocks priority i f) × (k ≡ present f)
    to k m =
        let (f, n, e) = Contains-map_cases present (filter (speaks i) numbers) k m in
        (f, (tells_speaks i f).0 (Contains-filter (speaks i) numbers f n).1, sym e)

of_fact : (i : ℕ) → i < 5 → IsFactClause priority i (clause_at i)
of_fact i l = inr (Contains-nil i, blocking i l)

abbrev pair_clause : ℕ × ℕ → List ℕ
pair_clause c = conflict_clause c.0 c.1

-- the base clauses: those of the facts and those of the conflicts
abbrev pub base : List (List ℕ)
base = map clause_at numbers ++ map pair_clause couples

by_facts : AreClausesBelow priority 5 base
by_facts c = (to, λ (f, l, w). from f l w)
  where
    to : Contains base c → (f : ℕ) × (f < 5) × IsClauseOf priority f c
    to m = elim (append_cases (map clause_at numbers) (map pair_clause couples) c m) [
      | inl n ↦ (let (i, o, e) = Contains-map_cases clause_at numbers c n in
          (i, number_below i o, inl (subst (IsFactClause priority i) e (of_fact i (number_below i o)))))
      | inr n ↦ (let (d, o, e) = Contains-map_cases pair_clause couples c n in let w = couple_clashes d.0 d.1 o in let a = w.0 in let b = w.1 in
          (d.0, omega arith, inr (d.1, o, sym e)))
    ]

    from : (f : ℕ) → f < 5 → IsClauseOf priority f c → Contains base c
    from f l (inl w) = append_left (map clause_at numbers) (map pair_clause couples) c
        (subst (Contains (map clause_at numbers)) (fact_clause_unique priority f (clause_at f) c (of_fact f l) w)
        (Contains-map clause_at numbers f (numbered f l)))
    from f l (inr (other, m, e)) = append_right (map clause_at numbers) (map pair_clause couples) c
        (subst (Contains (map pair_clause couples)) (sym e) (Contains-map pair_clause couples (f, other) m))

pub base_clauses : AreBaseClauses crowded_register mode.Pareto base
base_clauses = base_by_facts crowded_register mode.Pareto priority is_priority base by_facts
