-- The counts of what is kept are within the number of lines.
use Rattle.std.proofs.Common.{ℕ, suc, ◌+◌, ◌<◌, ◌≤◌, ◌^◌, List, [], ◌∷◌, length, Bool, true, false, ◌||◌, subst, sym, arith}
use Rattle.report_text.specs.declared.line.Line.{Line}
use Rattle.report_text.specs.declared.line.Line.TheVariants as line
use Rattle.report_text.specs.declared.line.Question.TheVariants as question
use Rattle.report_rules.specs.Live.{same_question}
use Rattle.report_rules.specs.Rules.{is_yes, is_undecided}
use Rattle.report_laws.specs.Standing.{Standing, standing_of, counted, after}
use Rattle.report_laws.proofs.StandingLemmas.{moves_on}
use Rattle.refutation_confirmer.specs.Room.{HasRoom}

-- each count is at most the number
pub record Within (n : ℕ) (s : Standing) : Type 0 where
  pub told : s.told ≤ n
  pub ends : s.ends ≤ n
  pub learn_lines : s.learn_lines ≤ n
  pub in_brave : s.in_brave ≤ n
  pub in_iar : s.in_iar ≤ n
  pub in_ar : s.in_ar ≤ n
  pub answers : s.answers ≤ n
  pub brave : s.brave ≤ n
  pub ar : s.ar ≤ n
  pub iar : s.iar ≤ n
  pub undecided : s.undecided ≤ n
  pub total : s.total ≤ n

counted_within : (test : Bool) (m n : ℕ) → m ≤ n → counted test m ≤ suc n
counted_within true m n l = omega arith
counted_within false m n l = omega arith

within_more : (facts n : ℕ) (s : Standing) (l : Line) → Within n s → Within (suc n) (after facts s l)
within_more facts n s (line.Head axioms budget count keep repairs version) w = record {
  told = omega (arith, w.told);
  ends = omega (arith, w.ends);
  learn_lines = omega (arith, w.learn_lines);
  in_brave = omega (arith, w.in_brave);
  in_iar = omega (arith, w.in_iar);
  in_ar = omega (arith, w.in_ar);
  answers = omega (arith, w.answers);
  brave = omega (arith, w.brave);
  ar = omega (arith, w.ar);
  iar = omega (arith, w.iar);
  undecided = omega (arith, w.undecided);
  total = omega (arith, w.total);
}
within_more facts n s (line.Cq o query step) w = record {
  told = omega (arith, w.told);
  ends = omega (arith, w.ends);
  learn_lines = omega (arith, w.learn_lines);
  in_brave = omega (arith, w.in_brave);
  in_iar = omega (arith, w.in_iar);
  in_ar = omega (arith, w.in_ar);
  answers = omega (arith, w.answers);
  brave = omega (arith, w.brave);
  ar = omega (arith, w.ar);
  iar = omega (arith, w.iar);
  undecided = omega (arith, w.undecided);
  total = omega (arith, w.total);
}
within_more facts n s (line.Conflict numbers rule member) w = record {
  told = omega (arith, w.told);
  ends = omega (arith, w.ends);
  learn_lines = omega (arith, w.learn_lines);
  in_brave = omega (arith, w.in_brave);
  in_iar = omega (arith, w.in_iar);
  in_ar = omega (arith, w.in_ar);
  answers = omega (arith, w.answers);
  brave = omega (arith, w.brave);
  ar = omega (arith, w.ar);
  iar = omega (arith, w.iar);
  undecided = omega (arith, w.undecided);
  total = omega (arith, w.total);
}
within_more facts n s (line.Ask candidate tuple causes members) w = record {
  told = omega (arith, w.told);
  ends = omega (arith, w.ends);
  learn_lines = omega (arith, w.learn_lines);
  in_brave = omega (arith, w.in_brave);
  in_iar = omega (arith, w.in_iar);
  in_ar = omega (arith, w.in_ar);
  answers = omega (arith, w.answers);
  brave = omega (arith, w.brave);
  ar = omega (arith, w.ar);
  iar = omega (arith, w.iar);
  undecided = omega (arith, w.undecided);
  total = omega (arith, w.total);
}
within_more facts n s (line.Try question assume) w = record {
  told = omega (arith, w.told);
  ends = omega (arith, w.ends);
  learn_lines = omega (arith, w.learn_lines);
  in_brave = omega (arith, w.in_brave);
  in_iar = omega (arith, w.in_iar);
  in_ar = omega (arith, w.in_ar);
  answers = omega (arith, w.answers);
  brave = omega (arith, w.brave);
  ar = omega (arith, w.ar);
  iar = omega (arith, w.iar);
  undecided = omega (arith, w.undecided);
  total = omega (arith, w.total);
}
within_more facts n s (line.Learn number clause) w = record {
  told = omega (arith, w.told);
  ends = omega (arith, w.ends);
  learn_lines = omega (arith, w.learn_lines);
  in_brave = counted_within (same_question question.Brave s.question) s.in_brave n w.in_brave;
  in_iar = counted_within (same_question question.Iar s.question) s.in_iar n w.in_iar;
  in_ar = counted_within (same_question question.Ar s.question) s.in_ar n w.in_ar;
  answers = omega (arith, w.answers);
  brave = omega (arith, w.brave);
  ar = omega (arith, w.ar);
  iar = omega (arith, w.iar);
  undecided = omega (arith, w.undecided);
  total = omega (arith, w.total);
}
within_more facts n s (line.Core number kept dropped) w = record {
  told = omega (arith, w.told);
  ends = omega (arith, w.ends);
  learn_lines = omega (arith, w.learn_lines);
  in_brave = omega (arith, w.in_brave);
  in_iar = omega (arith, w.in_iar);
  in_ar = omega (arith, w.in_ar);
  answers = omega (arith, w.answers);
  brave = omega (arith, w.brave);
  ar = omega (arith, w.ar);
  iar = omega (arith, w.iar);
  undecided = omega (arith, w.undecided);
  total = omega (arith, w.total);
}
within_more facts n s (line.Done how core) w = record {
  told = omega (arith, w.told);
  ends = omega (arith, w.ends);
  learn_lines = omega (arith, w.learn_lines);
  in_brave = omega (arith, w.in_brave);
  in_iar = omega (arith, w.in_iar);
  in_ar = omega (arith, w.in_ar);
  answers = omega (arith, w.answers);
  brave = omega (arith, w.brave);
  ar = omega (arith, w.ar);
  iar = omega (arith, w.iar);
  undecided = omega (arith, w.undecided);
  total = omega (arith, w.total);
}
within_more facts n s (line.Forget clauses) w = record {
  told = omega (arith, w.told);
  ends = omega (arith, w.ends);
  learn_lines = omega (arith, w.learn_lines);
  in_brave = omega (arith, w.in_brave);
  in_iar = omega (arith, w.in_iar);
  in_ar = omega (arith, w.in_ar);
  answers = omega (arith, w.answers);
  brave = omega (arith, w.brave);
  ar = omega (arith, w.ar);
  iar = omega (arith, w.iar);
  undecided = omega (arith, w.undecided);
  total = omega (arith, w.total);
}
within_more facts n s (line.Answer brave ar iar cores names tuple) w = record {
  told = omega (arith, w.told);
  ends = omega (arith, w.ends);
  learn_lines = omega (arith, w.learn_lines);
  in_brave = omega (arith, w.in_brave);
  in_iar = omega (arith, w.in_iar);
  in_ar = omega (arith, w.in_ar);
  answers = omega (arith, w.answers);
  brave = counted_within (is_yes brave) s.brave n w.brave;
  ar = counted_within (is_yes ar) s.ar n w.ar;
  iar = counted_within (is_yes iar) s.iar n w.iar;
  undecided = counted_within (is_undecided brave || (is_undecided ar || is_undecided iar)) s.undecided n w.undecided;
  total = omega (arith, w.total);
}
within_more facts n s (line.End answers brave ar iar undecided) w = record {
  told = omega (arith, w.told);
  ends = omega (arith, w.ends);
  learn_lines = omega (arith, w.learn_lines);
  in_brave = omega (arith, w.in_brave);
  in_iar = omega (arith, w.in_iar);
  in_ar = omega (arith, w.in_ar);
  answers = omega (arith, w.answers);
  brave = omega (arith, w.brave);
  ar = omega (arith, w.ar);
  iar = omega (arith, w.iar);
  undecided = omega (arith, w.undecided);
  total = omega (arith, w.total);
}

-- after so many lines
pub within_lines : (facts : ℕ) (b : List Line) → Within (length b) (standing_of facts b)
within_lines facts [] = record {
  told = omega arith;
  ends = omega arith;
  learn_lines = omega arith;
  in_brave = omega arith;
  in_iar = omega arith;
  in_ar = omega arith;
  answers = omega arith;
  brave = omega arith;
  ar = omega arith;
  iar = omega arith;
  undecided = omega arith;
  total = omega arith;
}
within_lines facts (l ∷ b) = subst (Within (suc (length b))) (sym (moves_on facts b l))
    (within_more facts (length b) (standing_of facts b) l (within_lines facts b))

-- so there is room for one more, where the lines are fewer than the bound
pub has_room : (n : ℕ) (s : Standing) → Within n s → n + 1 < 2 ^ 64 → HasRoom s
has_room n s w l = record {
  told = omega (arith, w.told, l);
  ends = omega (arith, w.ends, l);
  learn_lines = omega (arith, w.learn_lines, l);
  in_brave = omega (arith, w.in_brave, l);
  in_iar = omega (arith, w.in_iar, l);
  in_ar = omega (arith, w.in_ar, l);
  answers = omega (arith, w.answers, l);
  brave = omega (arith, w.brave, l);
  ar = omega (arith, w.ar, l);
  iar = omega (arith, w.iar, l);
  undecided = omega (arith, w.undecided, l);
  total = omega (arith, w.total, l);
}
