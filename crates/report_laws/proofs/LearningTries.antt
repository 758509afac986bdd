-- The two tries of the first candidate of the second worked report are right: one that is spent, and one that ends refuted.
use Rattle.std.proofs.Common.{◌≡◌, ℕ, ◌<◌, inl, inr, List, [], ◌∷◌, ◌++◌, Contains, None, refl, sym, subst, arith}
use Rattle.std.proofs.lemmas.List.Elements.{All-contains, All-from_recursion}
use Rattle.std.proofs.lemmas.List.Kept.{AllPairs-cons}
use Rattle.cq_terms.specs.declared.facts.Repairs.TheVariants as mode
use Rattle.cq_meaning.specs.Conflicts.{Conflict}
use Rattle.cq_meaning.specs.Repairs.{IsBetter}
use Rattle.cq_terms.specs.Lists.{IsAscending}
use Rattle.cq_meaning.proofs.Extension.{Conflict-sym}
use Rattle.cq_meaning.proofs.Members.{Contains-head}
use Rattle.clause_meaning.specs.Literals.{HaveDistinctVariables, variable_of, opposite_of}
use Rattle.priority_graph.proofs.SplitLemmas.{has_true, has_there}
use Rattle.report_text.specs.declared.line.Question.TheVariants as question
use Rattle.report_text.specs.declared.line.How.TheVariants as how
use Rattle.report_rules.specs.Tries.{Asked}
use Rattle.report_laws.specs.LiveLists.{AreLive}
use Rattle.report_rules.specs.TryRules.{MayLearn, HasDirectCore}
use Rattle.report_laws.specs.AtStanding.{IsEasyAt}
use Rattle.report_rules.specs.Accepted.{Right, AreRight}
use Rattle.report_laws.specs.LearningExample.{crowded_register}
use Rattle.report_laws.proofs.AtStandingLemmas.{rules_kept}
use Rattle.report_laws.proofs.ListLemmas.{only_one}
use Rattle.report_laws.proofs.LearningTable.{conflict, couples, paired, better, base, base_clauses}
use Rattle.report_laws.proofs.LearningCandidates.{no_pairs, one_ascends}
use Rattle.report_laws.proofs.LearningHead.{up_to_13}
use Rattle.report_laws.proofs.LearningLines.{about, l14, l15, l16, l17, l18, l19, b13, b14, b15, b16, b17, b18, b19}
use Rattle.report_laws.proofs.PropagationTests.{refuted_by_test, open_by_test, contains_none}

-- ---- conflicts and what may be learned

ab : Conflict crowded_register 0 1
ab = conflict 0 1 (omega arith) (omega arith) refl

ac : Conflict crowded_register 0 2
ac = conflict 0 2 (omega arith) (omega arith) refl

bd : Conflict crowded_register 1 3
bd = conflict 1 3 (omega arith) (omega arith) refl

abbrev first : Asked
first = record { candidate = 0; tuple = 0 ∷ []; causes = (0 ∷ []) ∷ [] }

b_absent : MayLearn crowded_register first 3
b_absent = inl (1, inr refl, (0, Conflict-sym crowded_register 0 1 ab), (0 ∷ [], 0, 1, Contains-head (0 ∷ []) [], Contains-head 0 [], (0, refl, ab)))

c_absent : MayLearn crowded_register first 5
c_absent = inl (2, inr refl, (0, Conflict-sym crowded_register 0 2 ac), (0 ∷ [], 0, 1, Contains-head (0 ∷ []) [], Contains-head 0 [], (0, refl, ac)))

d_present : MayLearn crowded_register first 6
d_present = inl (3, inl refl, (1, Conflict-sym crowded_register 1 3 bd), (0 ∷ [], 0, 2, Contains-head (0 ∷ []) [], Contains-head 0 [], (1, (0, refl, ab), bd)))

two_ascend : IsAscending (5 ∷ 6 ∷ [])
two_ascend = AllPairs-cons (λ a b. a < b) 5 (6 ∷ []) (All-from_recursion (λ b. 5 < b) (6 ∷ []) (omega arith, tt)) (one_ascends 6)

two_differ : HaveDistinctVariables (5 ∷ 6 ∷ [])
unfolding variable_of
two_differ = AllPairs-cons (λ k l. variable_of k ≡ variable_of l → ⊥) 5 (6 ∷ [])
    (All-from_recursion (λ l. variable_of 5 ≡ variable_of l → ⊥) (6 ∷ []) ((λ e. omega arith), tt)) (λ i j d a b. absurd (no_pairs i j a b))

-- ---- the first try isn't easy

-- a fact has no direct core where another one is better
no_direct : (j r : ℕ) → r < 5 → IsBetter crowded_register mode.Pareto r j → HasDirectCore crowded_register mode.Pareto (j ∷ []) → ⊥
no_direct j r l b (dropped, rivals, core) =
    let m = (rivals r).1 (j, Contains-head j [], Conflict-sym crowded_register r j b.conflict) in
    elim (core.blocked r l (has_true dropped r m)) [
      | inl self ↦ self b.conflict.left
      | inr (i, k, t, c, n) ↦ n (subst (λ z. IsBetter crowded_register mode.Pareto r z) (only_one j i (has_there (j ∷ []) i t)) b)
    ]

abbrev NotDirect : ℕ → Type 0
NotDirect j = HasDirectCore crowded_register mode.Pareto (j ∷ []) → ⊥

abbrev Hard : ℕ × ℕ → Type 0
Hard c = (c.0 ≡ 0 → NotDirect c.1) × (c.1 ≡ 0 → NotDirect c.0)

hard : (i j : ℕ) → Contains couples (i, j) → (i ≡ 0 → NotDirect j) × (j ≡ 0 → NotDirect i)
hard i j m = All-contains Hard couples (i, j) (All-from_recursion Hard couples (
  ((λ e. no_direct 1 3 (omega arith) (better 3 1 (1, omega arith, refl))), λ e. absurd (omega arith)),
  (
    ((λ e. no_direct 2 1 (omega arith) (better 1 2 (0, omega arith, refl))), λ e. absurd (omega arith)),
    (
      ((λ e. absurd (omega arith)), λ e. absurd (omega arith)),
      (
        ((λ e. absurd (omega arith)), λ e. absurd (omega arith)),
        (((λ e. absurd (omega arith)), λ e. absurd (omega arith)), tt),
      ),
    ),
  ),
)) m

not_easy : IsEasyAt crowded_register mode.Pareto question.Iar (0 ∷ []) → ⊥
not_easy (i, j, m, c, d) = elim (paired i j c) [
  | inl k ↦ (hard i j k).0 (sym (only_one 0 i m)) d
  | inr k ↦ (hard j i k).1 (sym (only_one 0 i m)) d
]

-- ---- the first try

r14 : Right about b13 l14
r14 = record {
  order = refl;
  query_left = tt;
  closed = λ o e. absurd (cc);
  complete = tt;
  own =
      ((rules_kept about b13 up_to_13).try' refl question.Iar (1 ∷ [])).0 refl;
}

pub up_to_14 : AreRight about b14
up_to_14 = (r14, up_to_13)

-- the clauses that live from the first candidate on
abbrev pub first_live : List (List ℕ)
first_live = base ++ (1 ∷ 11 ∷ []) ∷ []

pub live14 : AreLive crowded_register b14 first_live
live14 = (rules_kept about b14 up_to_14).live base base_clauses

r15 : Right about b14 l15
unfolding opposite_of
r15 = record {
  order = refl;
  query_left = tt;
  closed = λ o e. absurd (cc);
  complete = tt;
  own = ((rules_kept about b14 up_to_14).learn first_live live14 0 (5 ∷ 6 ∷ [])).0 (record {
    counts = refl;
    in_budget = let l : 0 < 1 = omega arith in l;
    not_empty = let l : 0 < 2 = omega arith in l;
    ascending = two_ascend;
    distinct = two_differ;
    literals = All-from_recursion (MayLearn crowded_register first) (5 ∷ 6 ∷ []) (c_absent, (d_present, tt));
    follows = refuted_by_test first_live (4 ∷ 7 ∷ []) (1 ∷ 3 ∷ 7 ∷ 4 ∷ []) refl;
    new = contains_none first_live (5 ∷ 6 ∷ []) refl;
    needed = open_by_test first_live (1 ∷ []) (1 ∷ 8 ∷ []) refl refl;
  });
}

pub up_to_15 : AreRight about b15
up_to_15 = (r15, up_to_14)

abbrev second_live : List (List ℕ)
second_live = first_live ++ (5 ∷ 6 ∷ []) ∷ []

live15 : AreLive crowded_register b15 second_live
live15 = (rules_kept about b15 up_to_15).live base base_clauses

r16 : Right about b15 l16
unfolding opposite_of variable_of
r16 = record {
  order = inl refl;
  query_left = tt;
  closed = λ o e. absurd (cc);
  complete = tt;
  own = ((rules_kept about b15 up_to_15).done (inl refl) second_live live15 how.Spent None).0
      (record { not_refuted = open_by_test second_live (1 ∷ []) (1 ∷ 8 ∷ []) refl refl; budget = refl; not_easy = not_easy });
}

up_to_16 : AreRight about b16
up_to_16 = (r16, up_to_15)

-- ---- the second try

r17 : Right about b16 l17
r17 = record {
  order = refl;
  query_left = tt;
  closed = λ o e. absurd (cc);
  complete = tt;
  own =
      ((rules_kept about b16 up_to_16).try' refl question.Ar (10 ∷ [])).0 refl;
}

up_to_17 : AreRight about b17
up_to_17 = (r17, up_to_16)

live17 : AreLive crowded_register b17 second_live
live17 = (rules_kept about b17 up_to_17).live base base_clauses

r18 : Right about b17 l18
unfolding opposite_of
r18 = record {
  order = refl;
  query_left = tt;
  closed = λ o e. absurd (cc);
  complete = tt;
  own = ((rules_kept about b17 up_to_17).learn second_live live17 1 (3 ∷ [])).0 (record {
    counts = refl;
    in_budget = let l : 0 < 1 = omega arith in l;
    not_empty = let l : 0 < 1 = omega arith in l;
    ascending = one_ascends 3;
    distinct = λ i j d a b. absurd (no_pairs i j a b);
    literals = All-from_recursion (MayLearn crowded_register first) (3 ∷ []) (b_absent, tt);
    follows = refuted_by_test second_live (2 ∷ []) (7 ∷ 5 ∷ 2 ∷ []) refl;
    new = contains_none second_live (3 ∷ []) refl;
    needed = open_by_test second_live (10 ∷ []) (10 ∷ 1 ∷ 8 ∷ []) refl refl;
  });
}

up_to_18 : AreRight about b18
up_to_18 = (r18, up_to_17)

abbrev third_live : List (List ℕ)
third_live = first_live ++ (5 ∷ 6 ∷ []) ∷ (3 ∷ []) ∷ []

live18 : AreLive crowded_register b18 third_live
live18 = (rules_kept about b18 up_to_18).live base base_clauses

r19 : Right about b18 l19
unfolding opposite_of
r19 = record {
  order = inl refl;
  query_left = tt;
  closed = λ o e. absurd (cc);
  complete = tt;
  own = ((rules_kept about b18 up_to_18).done (inl refl) third_live live18 how.Refuted None).0
      (refuted_by_test third_live (10 ∷ []) (6 ∷ 4 ∷ 3 ∷ 1 ∷ 10 ∷ []) refl);
}

pub up_to_19 : AreRight about b19
up_to_19 = (r19, up_to_18)
