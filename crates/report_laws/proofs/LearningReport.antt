-- The second worked report is accepted, and each altered one is broken at its line by its rule.
use Rattle.std.proofs.Common.{◌≡◌, ℕ, ◌<◌, inl, inr, [], ◌∷◌, Contains, Some, None, IsTrue, true≢false, refl, sym, arith}
use Rattle.std.specs.Prelude.{codes}
use Rattle.std.proofs.lemmas.List.Elements.{recursion_from_All}
use Rattle.clause_meaning.specs.Literals.{variable_of, opposite_of}
use Rattle.clause_meaning.specs.Refutation.{Refutes}
use Rattle.report_text.specs.declared.line.Line.TheVariants as line
use Rattle.report_text.specs.declared.line.Verdict.TheVariants as verdict
use Rattle.report_text.specs.declared.line.How.TheVariants as how
use Rattle.report_rules.specs.declared.rule.Rule.TheVariants as rule
use Rattle.report_laws.specs.AtStanding.{is_learned}
use Rattle.report_rules.specs.Accepted.{Obeys}
use Rattle.report_laws.specs.LearningExample.{crowded_register, first_answer, LearningReports}
use Rattle.report_laws.proofs.AtStandingLemmas.{rules_kept}
use Rattle.report_laws.proofs.LiveListLemmas.{lists_tell}
use Rattle.report_laws.proofs.BreakingLemmas.{broken_from}
use Rattle.report_laws.proofs.LearningTable.{conflict_lists}
use Rattle.report_laws.proofs.LearningHead.{up_to_12}
use Rattle.report_laws.proofs.LearningTries.{up_to_14, up_to_15, up_to_19, first_live, live14}
use Rattle.report_laws.proofs.LearningAnswers.{up_to_20, up_to_26, two_learned}
use Rattle.report_laws.proofs.LearningLines.{about, b12, b14, b15, b19, b20}
use Rattle.report_laws.proofs.PropagationTests.{open_by_test}

-- ---- what the altered lines say is not so

-- A(a) isn't refuted to be absent by the clauses that live at first
still_open : Refutes (Contains first_live) (Contains (1 ∷ [])) → ⊥
unfolding opposite_of
still_open r = open_by_test first_live (1 ∷ []) (1 ∷ 8 ∷ []) refl refl r

not_following : Obeys about b14 (line.Learn 0 (0 ∷ [])) → ⊥
unfolding opposite_of
not_following w = still_open (((lists_tell crowded_register b14 first_live live14).follows (0 ∷ [])).1 w.follows)

not_refuted : Obeys about b14 (line.Done how.Refuted None) → ⊥
not_refuted w = still_open (((lists_tell crowded_register b14 first_live live14).refutes (1 ∷ [])).1 w)

not_spent : Obeys about b14 (line.Done how.Spent None) → ⊥
not_spent w = let e : ◌≡◌ {A = ℕ} 0 1 = w.budget in omega arith

not_numbered : Obeys about b14 (line.Learn 1 (5 ∷ 6 ∷ [])) → ⊥
not_numbered w = let e : ◌≡◌ {A = ℕ} 1 0 = w.counts in omega arith

not_in_budget : Obeys about b15 (line.Learn 1 (3 ∷ [])) → ⊥
not_in_budget w = let l : 1 < 1 = w.in_budget in omega arith

not_settled : Obeys about b19 (first_answer verdict.Yes) → ⊥
not_settled w = true≢false (sym (((rules_kept about b19 up_to_19).answer verdict.Yes verdict.Yes verdict.Yes [] (codes "a" ∷ []) (0 ∷ [])).1 w).iar_is)

none_lives : Obeys about b12 (line.Forget []) → ⊥
none_lives w = let l : 0 < 0 = w.many in omega arith

not_learned : Obeys about b20 (line.Forget (2 ∷ [])) → ⊥
unfolding variable_of
not_learned w = true≢false (sym (recursion_from_All (λ n. IsTrue (is_learned two_learned n)) (2 ∷ [])
    (((rules_kept about b20 up_to_20).forget (2 ∷ [])).1 w).live).0)

-- ---- the reports

pub learning_reports : LearningReports
learning_reports = record {
  accepted = record { right = up_to_26; ended = refl };
  unfounded = λ rest. broken_from about b14 up_to_14 (Some (line.Learn 0 (0 ∷ [])) ∷ rest) 15 rule.Learn
      (inl (inr ((refl, tt), inr ((λ o e. absurd (cc)), inr (tt, (refl, not_following)))), refl));
  misnumbered = λ rest. broken_from about b14 up_to_14 (Some (line.Learn 1 (5 ∷ 6 ∷ [])) ∷ rest) 15 rule.Learn
      (inl (inr ((refl, tt), inr ((λ o e. absurd (cc)), inr (tt, (refl, not_numbered)))), refl));
  over_budget = λ rest. broken_from about b15 up_to_15 (Some (line.Learn 1 (3 ∷ [])) ∷ rest) 16 rule.Learn
      (inl (inr ((refl, tt), inr ((λ o e. absurd (cc)), inr (tt, (refl, not_in_budget)))), refl));
  refuted_at_once = λ rest. broken_from about b14 up_to_14 (Some (line.Done how.Refuted None) ∷ rest) 15 rule.Done
      (inl (inr ((inl refl, tt), inr ((λ o e. absurd (cc)), inr (tt, (refl, not_refuted)))), refl));
  spent_at_once = λ rest. broken_from about b14 up_to_14 (Some (line.Done how.Spent None) ∷ rest) 15 rule.Done
      (inl (inr ((inl refl, tt), inr ((λ o e. absurd (cc)), inr (tt, (refl, not_spent)))), refl));
  settled = λ rest. broken_from about b19 up_to_19 (Some (first_answer verdict.Yes) ∷ rest) 20 rule.Answer
      (inl (inr ((refl, tt), inr ((λ o e. absurd (cc)), inr (tt, (refl, not_settled)))), refl));
  nothing_lives = λ rest. broken_from about b12 up_to_12 (Some (line.Forget []) ∷ rest) 13 rule.Forget
      (inl (inr ((tt, tt), inr ((λ o e. absurd (cc)), inr (conflict_lists, (refl, none_lives)))), refl));
  not_live = λ rest. broken_from about b20 up_to_20 (Some (line.Forget (2 ∷ [])) ∷ rest) 21 rule.Forget
      (inl (inr ((tt, tt), inr ((λ o e. absurd (cc)), inr (conflict_lists, (refl, not_learned)))), refl));
}
