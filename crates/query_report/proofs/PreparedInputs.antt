-- What is prepared is what a classification asks for.
use Rattle.std.proofs.Common.{◌≡◌, ℕ, ◌+◌, ◌<◌, ◌≤◌, ◌^◌, List, [], ◌∷◌, length, refl, subst, sym, arith}
use Rattle.std.specs.Prelude.{All, sum_by}
use Rattle.std.proofs.lemmas.List.Elements.{All-weaker}
use Rattle.std.proofs.lemmas.List.Sums.{sum_by-cons}
use Rattle.cq_terms.specs.Knowledge.{Knowledge}
use Rattle.cq_terms.specs.Query.{Query, IsSafe}
use Rattle.cause_finder.specs.declared.candidate.Candidate.{Candidate}
use Rattle.preparation.specs.declared.preparing.Prepared.{Prepared}
use Rattle.preparation.specs.Prepared.{IsPrepared, size_of}
use Rattle.answer_desk.specs.declared.plan.Plan.{Plan}
use Rattle.answer_desk.specs.Desks.{most_budget, total}
use Rattle.classifier.specs.WholeInputs.{AreOfInput, AreOfQuery, AreFew}

pub of_input : (kb : Knowledge) (q : Query) (plan : Plan) (p : Prepared) → IsPrepared kb q plan.repairs p
    → AreOfInput kb plan p.found.conflicts p.found.closures.items p.better
of_input kb q plan p w = record { closures_are = w.closures; conflicts = w.conflicts; named = w.named; over = w.over; priority = w.priority }

pub of_query : (kb : Knowledge) (q : Query) (plan : Plan) (p : Prepared) → IsSafe q → IsPrepared kb q plan.repairs p
    → AreOfQuery kb q p.closure p.candidates.items
of_query kb q plan p safe w = record { safe = safe; closes = w.closes; answers = w.answers }

total_is_size : (lists : List (List ℕ)) → total lists ≡ size_of lists
total_is_size [] = refl
total_is_size (x ∷ xs) = omega (arith, total_is_size xs, sum_by-cons length x xs)

pub are_few : (kb : Knowledge) (q : Query) (plan : Plan) (p : Prepared) → length kb.axioms < 2 ^ 32 → plan.budget ≤ most_budget
    → IsPrepared kb q plan.repairs p → AreFew kb plan p.candidates.items
are_few kb q plan p axioms budget w = record {
  axioms = axioms;
  facts = w.few;
  causes = All-weaker (λ (c : Candidate). size_of c.causes < 2 ^ 31) (λ (c : Candidate). total c.causes < 2 ^ 31)
      (λ c few. subst (λ (n : ℕ). n < 2 ^ 31) (sym (total_is_size c.causes)) few) p.candidates.items w.sizes;
  budget = budget;
}
