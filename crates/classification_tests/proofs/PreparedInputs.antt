-- What is prepared of an input whose individuals have names is what a classification and a desk ask for.
use Rattle.std.proofs.Common.{◌≡◌, ℕ, ◌+◌, ◌<◌, ◌≤◌, ◌^◌, List, [], ◌∷◌, length, get_or, refl, subst, sym, arith}
use Rattle.std.specs.Prelude.{All, sum_by}
use Rattle.std.proofs.lemmas.List.Elements.{All-weaker}
use Rattle.std.proofs.lemmas.List.Sums.{sum_by-cons}
use Rattle.cq_terms.specs.Knowledge.{Knowledge}
use Rattle.cq_terms.specs.Query.{Query, IsSafe}
use Rattle.cq_terms.specs.declared.names.Vocab.{Vocab}
use Rattle.cause_finder.specs.declared.candidate.Candidate.{Candidate}
use Rattle.preparation.specs.declared.preparing.Prepared.{Prepared}
use Rattle.preparation.specs.Prepared.{IsPrepared, size_of}
use Rattle.answer_desk.specs.declared.plan.Plan.{Plan}
use Rattle.answer_desk.specs.Desks.{DeskState, MayOpen, MayAnswer, most_budget, new_desk, total}
use Rattle.classifier.specs.WholeInputs.{AreOfInput, AreOfQuery, AreFew, HaveTexts}
use Rattle.classifier.specs.WholeReports.{first_desk}
use Rattle.classifier.proofs.WholeCauseLemmas.{may_open, may_answer_all}
use Rattle.classifier.proofs.WholeStepLemmas.{may_answer_next, same_desk}
use Rattle.classification_tests.specs.Told.{IsNamed}

pub of_input : (kb : Knowledge) (q : Query) (plan : Plan) (p : Prepared) → IsPrepared kb q plan.repairs p
    → AreOfInput kb plan p.found.conflicts p.found.closures.items p.better
of_input kb q plan p w = record { closures_are = w.closures; conflicts = w.conflicts; named = w.named; over = w.over; priority = w.priority }

pub of_query : (kb : Knowledge) (q : Query) (plan : Plan) (p : Prepared) → IsSafe q → IsPrepared kb q plan.repairs p
    → AreOfQuery kb q p.closure p.candidates.items
of_query kb q plan p safe w = record { safe = safe; closes = w.closes; answers = w.answers }

pub have_texts : (kb : Knowledge) (q : Query) (plan : Plan) (p : Prepared) (vocab : Vocab) → IsNamed kb q vocab → IsPrepared kb q plan.repairs p
    → HaveTexts p.candidates.items vocab.inds
have_texts kb q plan p vocab named w = w.individuals (length vocab.inds) named.facts_named named.head_named

total_is_size : (lists : List (List ℕ)) → total lists ≡ size_of lists
total_is_size [] = refl
total_is_size (x ∷ xs) = omega (arith, total_is_size xs, sum_by-cons length x xs)

pub are_few : (kb : Knowledge) (q : Query) (plan : Plan) (p : Prepared) (vocab : Vocab) → IsNamed kb q vocab → plan.budget ≤ most_budget
    → IsPrepared kb q plan.repairs p → AreFew kb plan p.candidates.items
are_few kb q plan p vocab named budget w = record {
  axioms = let l = named.axioms in omega (arith, l);
  facts = w.few;
  causes = All-weaker (λ (c : Candidate). size_of c.causes < 2 ^ 31) (λ (c : Candidate). total c.causes < 2 ^ 31)
      (λ c few. subst (λ (n : ℕ). n < 2 ^ 31) (sym (total_is_size c.causes)) few) p.candidates.items w.sizes;
  budget = budget;
}

-- a desk for all candidates may be opened
pub may_open_for : (kb : Knowledge) (q : Query) (plan : Plan) (p : Prepared) (vocab : Vocab) → IsNamed kb q vocab → plan.budget ≤ most_budget
    → IsPrepared kb q plan.repairs p → MayOpen p.found.conflicts p.better plan p.found.conflicts.facts (length p.candidates.items)
may_open_for kb q plan p vocab named budget w =
    may_open kb plan p.found.conflicts p.found.closures.items p.better p.candidates.items (of_input kb q plan p w) (are_few kb q plan p vocab named budget w)

-- and asked of the first one
pub may_answer_first : (kb : Knowledge) (q : Query) (plan : Plan) (p : Prepared) (vocab : Vocab) (desk : DeskState) (c : Candidate) → IsNamed kb q vocab
    → plan.budget ≤ most_budget → IsSafe q → IsPrepared kb q plan.repairs p
    → new_desk p.found.conflicts p.better plan (length p.candidates.items) desk → 0 < length p.candidates.items
    → get_or p.candidates.items 0 c ≡ c → MayAnswer desk 0 c.causes
may_answer_first kb q plan p vocab desk c named budget safe w new some at =
    let first = first_desk p.found.conflicts p.better plan (length p.candidates.items) in
    subst (λ (d : DeskState). MayAnswer d 0 c.causes) (sym new)
    (may_answer_next first first vocab.inds p.candidates.items 0 c
    (may_answer_all kb plan p.found.conflicts p.found.closures.items p.better q p.closure p.candidates.items vocab.inds (of_input kb q plan p w)
    (of_query kb q plan p safe w) (have_texts kb q plan p vocab named w) (are_few kb q plan p vocab named budget w))
    (same_desk first) refl some at)
