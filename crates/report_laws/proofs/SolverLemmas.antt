-- The steps of a solver that has the clauses of an open answer are right.
use Rattle.std.proofs.Common.{◌≡◌, ◌≢◌, ℕ, ◌<◌, ◌⊎◌, ◌↔◌, inl, inr, List, [], ◌∷◌, ◌++◌, length, Contains, All, refl, sym, subst, ap, ◌∙◌, arith}
use Rattle.std.proofs.lemmas.List.Elements.{All-contains, Contains-push, Contains-push_cases, Contains-append_left}
use Rattle.cq_meaning.specs.Repairs.{IsAcyclic}
use Rattle.clause_meaning.specs.Literals.{variable_of}
use Rattle.clause_meaning.specs.Assignments.{IsInside}
use Rattle.clause_meaning.specs.Refutation.{Refutes}
use Rattle.clause_meaning.specs.Learning.{OccursIn, IsLearnableIn}
use Rattle.priority_graph.specs.Split.{has}
use Rattle.repair_clauses.specs.BaseClauses.{present}
use Rattle.report_text.specs.declared.line.Line.{Line}
use Rattle.report_text.specs.declared.line.Line.TheVariants as line
use Rattle.report_rules.specs.Inputs.{Input, selector_of}
use Rattle.report_rules.specs.Told.{mode_of, budget_of}
use Rattle.report_rules.specs.Tries.{asked, question_of, assumed}
use Rattle.report_rules.specs.Live.{Learned, learned, learned_for, Live}
use Rattle.report_rules.specs.TryRules.{MayLearn}
use Rattle.report_laws.specs.OpenAnswers.{RightInside}
use Rattle.report_laws.specs.Scopes.{scope_of, KeepsTo, SayTheSame, ScopeDecides, HasUnits}
use Rattle.report_laws.specs.SolverSteps.{IsSolving, IsRefutedIn, StepsAreRight}
use Rattle.report_laws.proofs.ListLemmas.{only_one}
use Rattle.report_laws.proofs.EasyLemmas.{try_right}
use Rattle.report_laws.proofs.LiveLemmas.{answer_open}
use Rattle.report_laws.proofs.ScopeLemmas.{inside_by, assumed_inside, keeps_to}
use Rattle.report_laws.proofs.ScopeLines.{scope_learns, scope_separates, live_apart, selector_absent}
use Rattle.report_laws.proofs.ScopeRules.{scope_decides, between_decides}
use Rattle.report_laws.proofs.FreeFacts.{may_be_learned}

some_literal : (clause : List ℕ) → clause ≢ [] → 0 < length clause
some_literal [] n = absurd (n refl)
some_literal (l ∷ clause) n = omega arith

module _ (input : Input) (before : List Line) (facts : List ℕ) (S : List ℕ → Type 0) (s : IsSolving input before facts S)
    (acyclic : IsAcyclic input.kb (mode_of before)) where
  -- over the scope the clauses say what all live ones say, and those of the scope alone
  same : SayTheSame (scope_of input.kb (asked before) facts) (Live input.kb before) S × ScopeDecides (scope_of input.kb (asked before) facts) S
  same = between_decides (scope_of input.kb (asked before) facts) (Live input.kb before) S
      (scope_decides input before (scope_of input.kb (asked before) facts) s.right s.start acyclic (scope_separates input before facts s.keeps)) s.live s.loaded

  inside : IsInside (has (scope_of input.kb (asked before) facts)) (assumed before)
  inside = assumed_inside input.kb (asked before) facts s.keeps.scope (question_of before) (assumed before) (try_right input before s.right (inl s.trying))

  -- so they refute the assumptions exactly where all live ones do
  refuted_all : IsRefutedIn input before facts S → Refutes (Live input.kb before) (Contains (assumed before))
  refuted_all r = (same.0.refutes (assumed before) inside).1 ((same.1.refutes (assumed before) inside).1 r)

  refuted_inside : Refutes (Live input.kb before) (Contains (assumed before)) → IsRefutedIn input before facts S
  refuted_inside r = (same.1.refutes (assumed before) inside).0 ((same.0.refutes (assumed before) inside).0 r)

  module _ (number : ℕ) (clause : List ℕ) (w : IsLearnableIn (scope_of input.kb (asked before) facts) S clause) where
    -- no clause has the selector present, and so the learned one hasn't
    never_present : (c : List ℕ) → S c → Contains c (present (selector_of input.kb (asked before).candidate)) → ⊥
    never_present c m k = selector_absent input before s.right s.apart c (s.live c m) k

    absent_only : Contains clause (present (selector_of input.kb (asked before).candidate)) → ⊥
    absent_only m = let o = All-contains (OccursIn S) clause (present (selector_of input.kb (asked before).candidate)) w.learnable.occur m in
        never_present o.0 o.1 o.2

    -- without the selector it is apart
    keeps : KeepsTo input.kb (scope_of input.kb (asked before) facts) clause
    keeps = keeps_to input.kb (asked before) facts s.keeps.scope clause w.inside (λ free part closed.
        w.learnable.joins_nothing (selector_of input.kb (asked before).candidate) (λ (c, m, k). never_present c m k) part
        (λ c m f. live_apart input before facts s.keeps c (s.live c m) f part closed) free)

    units : (i : ℕ) → Contains facts i → HasUnits input.kb (mode_of before) S i
    units i m l e base = s.loaded (l ∷ []) (inl base) (λ k h. inside_by (scope_of input.kb (asked before) facts) i k
        (Contains-append_left facts (selector_of input.kb (asked before).candidate ∷ []) i m) (ap variable_of (sym (only_one l k h)) ∙ e))

    literals : All (MayLearn input.kb (asked before)) clause
    literals = may_be_learned input.kb (mode_of before) (asked before) facts clause S s.causes_known s.components w.inside absent_only units
        w.learnable.undecided

    right : ¬ IsRefutedIn input before facts S → learned_for (question_of before) before < budget_of before
        → RightInside input before (line.Learn number clause)
    right open_still few = record {
      order = s.trying;
      own = record {
        counts = refl;
        in_budget = few;
        not_empty = some_literal clause w.learnable.not_empty;
        ascending = w.ascending;
        distinct = w.learnable.distinct;
        literals = literals;
        follows = (same.0.follows clause w.inside).1 w.learnable.follows;
        new = λ c. w.learnable.new ((same.0.contains clause w.inside).0 c);
        needed = λ r. open_still (refuted_inside r);
      };
    }

    -- and a solver with this clause as well goes on
    goes_on : RightInside input before (line.Learn number clause) → (T : List ℕ → Type 0) → ((c : List ℕ) → T c ↔ (S c ⊎ (c ≡ clause)))
        → IsSolving input (line.Learn number clause ∷ before) facts T
    goes_on r T more = record {
      right = (r, s.right);
      trying = refl;
      start = s.start;
      apart = s.apart;
      causes_known = s.causes_known;
      components = record { ascending = s.components.ascending; exact = s.components.exact };
      keeps = scope_learns input.kb before facts s.keeps number clause keeps;
      live = λ c m. elim ((more c).0 m) [
        | inl old ↦ older c (s.live c old)
        | inr new ↦
            inr (inr (
              number,
              subst (λ (x : List ℕ). Contains (learned (length input.kb.facts) before ++ entry clause ∷ []) (entry x)) (sym new)
                  (Contains-push (learned (length input.kb.facts) before) (entry clause)),
            ))
      ];
      loaded = λ c l i. (more c).1 (newer c l i);
    }
      where
        entry : List ℕ → Learned
        entry x = record { number = number; clause = x }

        older : (c : List ℕ) → Live input.kb before c → Live input.kb (line.Learn number clause ∷ before) c
        older c (inl base) = inl base
        older c (inr (inl (o, m))) = inr (inl (refl, m))
        older c (inr (inr (n, m))) = inr (inr (
          n,
          Contains-append_left (learned (length input.kb.facts) before) (entry clause ∷ [])
              (record { number = n; clause = c }) m,
        ))

        newer : (c : List ℕ) → Live input.kb (line.Learn number clause ∷ before) c → IsInside (has (scope_of input.kb (asked before) facts)) c → S c
            ⊎ (c ≡ clause)
        newer c (inl base) i = inl (s.loaded c (inl base) i)
        newer c (inr (inl (o, m))) i = inl (s.loaded c (inr (inl (answer_open input before s.right, m))) i)
        newer c (inr (inr (n, m))) i = elim (Contains-push_cases (learned (length input.kb.facts) before) (entry clause) (record { number = n; clause = c })
            m) [
              | inl old ↦ inl (s.loaded c (inr (inr (n, old))) i)
              | inr new ↦ inr (sym (ap (λ (e : Learned). e.clause) new))
            ]

  pub steps_right : StepsAreRight input before facts S
  steps_right = record {
    learn = λ number clause w open_still few. let r = right number clause w open_still few in (r, λ list more. goes_on number clause w r (Contains list) more);
    refuted = refuted_all;
    spent = λ open_still budget hard. record { not_refuted = λ r. open_still (refuted_inside r); budget = budget; not_easy = hard };
  }
