-- The answers of the second worked report, its `forget` line and its second candidate are right.
use Rattle.std.proofs.Common.{ℕ, ◌<◌, ◌≤◌, inl, List, [], ◌∷◌, ◌++◌, None, IsTrue, refl, arith}
use Rattle.std.specs.Prelude.{codes}
use Rattle.std.proofs.lemmas.List.Elements.{All-from_recursion}
use Rattle.std.proofs.lemmas.List.Kept.{AllPairs-cons}
use Rattle.cq_terms.specs.Lists.{IsAscending}
use Rattle.clause_meaning.specs.Literals.{variable_of, opposite_of}
use Rattle.priority_graph.specs.Split.{has}
use Rattle.report_text.specs.declared.line.Question.TheVariants as question
use Rattle.report_text.specs.declared.line.Verdict.TheVariants as verdict
use Rattle.report_text.specs.declared.line.How.TheVariants as how
use Rattle.report_rules.specs.Live.{Learned}
use Rattle.report_laws.specs.LiveLists.{AreLive}
use Rattle.report_laws.specs.AtStanding.{is_learned}
use Rattle.report_rules.specs.Accepted.{Right, AreRight}
use Rattle.report_laws.specs.LearningExample.{crowded_register, who_in_a}
use Rattle.report_laws.proofs.AtStandingLemmas.{rules_kept}
use Rattle.report_laws.proofs.LearningTable.{base, base_clauses, conflict_lists}
use Rattle.report_laws.proofs.LearningCandidates.{one_ascends, all_candidates, candidates_are, image_of_one}
use Rattle.report_laws.proofs.LearningTries.{up_to_19}
use Rattle.report_laws.proofs.LearningLines.{about, l20, l21, l22, l23, l24, l25, l26, b19, b20, b21, b22, b23, b24, b25}
use Rattle.report_laws.proofs.PropagationTests.{refuted_by_test}

none_ascend : IsAscending []
none_ascend i j d a b = absurd (omega arith)

r20 : Right about b19 l20
r20 = record {
  order = refl;
  query_left = tt;
  closed = λ o e. absurd (cc);
  complete = tt;
  own = ((rules_kept about b19 up_to_19).answer verdict.Yes verdict.Yes verdict.Undecided [] (codes "a" ∷ []) (0 ∷ [])).0 (record {
    same_tuple = refl;
    told_texts = (refl, tt);
    ascending = none_ascend;
    earlier = All-from_recursion (λ n. n < 0) [] tt;
    complete = All-from_recursion (λ n. IsTrue (has [] n)) [] tt;
    brave_is = refl;
    ar_is = refl;
    iar_is = refl;
  });
}

pub up_to_20 : AreRight about b20
up_to_20 = (r20, up_to_19)

abbrev pub two_learned : List Learned
two_learned = record { number = 0; clause = 5 ∷ 6 ∷ [] } ∷ record { number = 1; clause = 3 ∷ [] } ∷ []

r21 : Right about b20 l21
unfolding variable_of
r21 = record {
  order = tt;
  query_left = tt;
  closed = λ o e. absurd (cc);
  complete = conflict_lists;
  own = ((rules_kept about b20 up_to_20).forget (0 ∷ 1 ∷ [])).0 (record {
    many = let l : 0 < 2 = omega arith in l;
    ascending = AllPairs-cons (λ a b. a < b) 0 (1 ∷ []) (All-from_recursion (λ b. 0 < b) (1 ∷ []) (omega arith, tt)) (one_ascends 1);
    live = All-from_recursion (λ n. IsTrue (is_learned two_learned n)) (0 ∷ 1 ∷ []) (refl, (refl, tt));
    stay = let l : 0 ≤ 0 = omega arith in l;
  });
}

up_to_21 : AreRight about b21
up_to_21 = (r21, up_to_20)

r22 : Right about b21 l22
r22 = record {
  order = inl refl;
  query_left = tt;
  closed = λ o e. absurd (cc);
  complete = conflict_lists;
  own = ((rules_kept about b21 up_to_21).ask all_candidates candidates_are 1 (1 ∷ []) ((4 ∷ []) ∷ []) (0 ∷ [])).0
      (record { number = refl; next = refl; found = ((who_in_a, refl, image_of_one 1 4 refl), tt) });
}

up_to_22 : AreRight about b22
up_to_22 = (r22, up_to_21)

r23 : Right about b22 l23
r23 = record {
  order = refl;
  query_left = tt;
  closed = λ o e. absurd (cc);
  complete = tt;
  own =
      ((rules_kept about b22 up_to_22).try' refl question.Iar (9 ∷ [])).0 refl;
}

up_to_23 : AreRight about b23
up_to_23 = (r23, up_to_22)

-- nothing that was learned lives any more
abbrev last_live : List (List ℕ)
last_live = base ++ (9 ∷ 13 ∷ []) ∷ []

live23 : AreLive crowded_register b23 last_live
unfolding variable_of
live23 = (rules_kept about b23 up_to_23).live base base_clauses

r24 : Right about b23 l24
unfolding opposite_of
r24 = record {
  order = inl refl;
  query_left = tt;
  closed = λ o e. absurd (cc);
  complete = tt;
  own = ((rules_kept about b23 up_to_23).done (inl refl) last_live live23 how.Refuted None).0 (refuted_by_test last_live (9 ∷ []) (9 ∷ []) refl);
}

up_to_24 : AreRight about b24
up_to_24 = (r24, up_to_23)

r25 : Right about b24 l25
r25 = record {
  order = refl;
  query_left = tt;
  closed = λ o e. absurd (cc);
  complete = tt;
  own = ((rules_kept about b24 up_to_24).answer verdict.Yes verdict.Yes verdict.Yes [] (codes "b" ∷ []) (1 ∷ [])).0 (record {
    same_tuple = refl;
    told_texts = (refl, tt);
    ascending = none_ascend;
    earlier = All-from_recursion (λ n. n < 0) [] tt;
    complete = All-from_recursion (λ n. IsTrue (has [] n)) [] tt;
    brave_is = refl;
    ar_is = refl;
    iar_is = refl;
  });
}

up_to_25 : AreRight about b25
up_to_25 = (r25, up_to_24)

r26 : Right about b25 l26
r26 = record {
  order = tt;
  query_left = tt;
  closed = λ o e. absurd (cc);
  complete = conflict_lists;
  own = ((rules_kept about b25 up_to_25).end all_candidates candidates_are 2 2 2 1 1).0
      (record { none_left = refl; answers_count = refl; brave_count = refl; ar_count = refl; iar_count = refl; undecided_count = refl });
}

pub up_to_26 : AreRight about (l26 ∷ b25)
up_to_26 = (r26, up_to_25)
