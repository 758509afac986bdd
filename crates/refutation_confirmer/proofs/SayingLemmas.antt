-- A right answer says all that is promised.
use Rattle.std.proofs.Common.{◌≡◌, ℕ, List, [], sym, subst, ap, ◌∙◌}
use Rattle.cq_terms.specs.Knowledge.{Knowledge}
use Rattle.cq_terms.specs.Query.{Query}
use Rattle.report_text.specs.Pieces.{pieces_of}
use Rattle.report_rules.specs.declared.rule.Rule.{Rule}
use Rattle.report_rules.specs.Inputs.{report_on}
use Rattle.report_laws.proofs.BreakingLemmas.{broken_not_accepted, broken_once}
use Rattle.report_laws.proofs.CycleLemmas.{confirmed_is_true}
use Rattle.refutation_confirmer.specs.declared.confirmed.Confirmed.{Confirmed}
use Rattle.refutation_confirmer.specs.declared.confirmed.Confirmed.TheVariants as confirmed
use Rattle.refutation_confirmer.specs.Saying.{IsYes, IsNo, IsRightAnswer, Says}

-- a right answer says all
pub says : (kb : Knowledge) (names : List (List ℕ)) (q : Query) (report : List ℕ) (c : Confirmed) → IsRightAnswer kb names q report c → Says kb names q report c
says kb names q report (confirmed.Yes answers) w = record {
  yes = λ n. (
    (λ e. let same : answers ≡ n = cc e in subst (IsYes kb names q report) same w),
    (λ v. ap confirmed.Yes (w.2 ∙ sym v.2)),
  );
  no = λ line r. (
    (λ e. absurd (cc e)),
    (λ v. absurd (broken_not_accepted (report_on kb names q) (pieces_of report) [] line r v.0 w.0)),
  );
  true_answers = λ n e. confirmed_is_true kb names q (pieces_of report) w.0 w.1;
}
says kb names q report (confirmed.No line r) w = record {
  yes = λ n. (
    (λ e. absurd (cc e)),
    (λ v. absurd (broken_not_accepted (report_on kb names q) (pieces_of report) [] line r w.0 v.0)),
  );
  no = λ m s. (
    (λ e. let a : line ≡ m = cc e in let b : r ≡ s = cc e in subst (λ (x : Rule). IsNo kb names q report m x) b
        (subst (λ (x : ℕ). IsNo kb names q report x r) a w)),
    (λ v. let one = broken_once (report_on kb names q) (pieces_of report) [] line m r s w.0 v.0 in ap (λ (x : ℕ). confirmed.No x r) one.0
        ∙ ap (confirmed.No m) one.1),
  );
  true_answers = λ n e. absurd (cc e);
}
