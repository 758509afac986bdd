-- Learned clauses by what a reader tests of them.
use Rattle.std.proofs.Common.{◌≡◌, ◌<◌, ◌+◌, ◌⊎◌, inl, inr, ℕ, List, length, map, All, Contains}
use Rattle.std.proofs.Common.{sym, subst, ap, ◌∙◌, arith}
use Rattle.std.specs.Prelude.{IsTrue}
use Rattle.std.proofs.lemmas.List.Elements.{All-contains, All-weaker}
use Rattle.clause_meaning.specs.Literals.{AreBelow, variable_of, opposite_of}
use Rattle.clause_meaning.specs.Refutation.{Refutes, ContainsOneOf}
use Rattle.clause_meaning.proofs.LiteralLaws.{variable_of-opposite_of}
use Rattle.clause_meaning.proofs.Members.{Contains-map_cases}
use Rattle.cq_terms.specs.Knowledge.{Knowledge}
use Rattle.cq_meaning.proofs.Ascending.{All-of}
use Rattle.cq_meaning.proofs.ByLists.{Conflict-within}
use Rattle.repair_clauses.specs.BaseClauses.{present, absent}
use Rattle.repair_clauses.proofs.LiteralLemmas.{variable_of-present, variable_of-absent}
use Rattle.report_rules.specs.ConflictLists.{AreConflictFacts}
use Rattle.report_rules.specs.Inputs.{selector_of}
use Rattle.report_rules.specs.Tries.{Asked}
use Rattle.report_rules.specs.TryRules.{MayLearn}
use Rattle.report_laws.specs.AtStanding.{LearnAt}
use Rattle.report_laws.specs.ComponentLaws.{may_learn}
use Rattle.report_laws.specs.Standing.{Standing}
use Rattle.report_laws.proofs.ComponentLemmas.{told}
use Rattle.report_standing.specs.RuleParts.{MayHave}

-- what may be learned is of the variables
literal_below : (kb : Knowledge) (a : Asked) (variables : ℕ) → selector_of kb a.candidate < variables → (l : ℕ) → MayLearn kb a l → variable_of l < variables
literal_below kb a variables size l (inl (i, is, (j, c), linked)) = subst (λ (v : ℕ). v < variables) (sym (same is)) (below i (Conflict-within kb i j c))
  where
    below : (i : ℕ) → i < length kb.facts → i < variables
    below i l = omega arith

    same : (l ≡ present i) ⊎ (l ≡ absent i) → variable_of l ≡ i
    same (inl e) = ap variable_of e ∙ variable_of-present i
    same (inr e) = ap variable_of e ∙ variable_of-absent i
literal_below kb a variables size l (inr e) = subst (λ (v : ℕ). v < variables) (sym (ap variable_of e ∙ variable_of-absent (selector_of kb a.candidate))) size

pub literals_below : (kb : Knowledge) (a : Asked) (variables : ℕ) (clause : List ℕ) → selector_of kb a.candidate < variables → All (MayLearn kb a) clause
    → AreBelow variables clause
literals_below kb a variables clause size h = All-weaker (MayLearn kb a) (λ l. variable_of l < variables) (literal_below kb a variables size) clause h

module _ (kb : Knowledge) (facts : List ℕ) (s : Standing) (number : ℕ) (clause : List ℕ) (are : AreConflictFacts kb s.asked.causes facts) where
  pub learns : (live : List (List ℕ)) → MayHave kb facts s number clause → Refutes (Contains live) (Contains (map opposite_of clause))
      → ¬ ContainsOneOf (Contains live) clause → ¬ Refutes (Contains live) (Contains s.assumed) → LearnAt kb live s number clause
  learns live h follows new needed = record {
    counts = h.counts;
    in_budget = h.in_budget;
    not_empty = h.not_empty;
    ascending = h.ascending;
    distinct = h.distinct;
    literals = All-weaker (λ l. IsTrue (may_learn (length kb.facts + s.asked.candidate) facts l)) (MayLearn kb s.asked)
        (λ l t. (told kb s.asked facts are l).0 t) clause h.literals;
    follows = follows;
    new = new;
    needed = needed;
  }

  pub may_have : (live : List (List ℕ)) → LearnAt kb live s number clause → MayHave kb facts s number clause
  may_have live h = record {
    counts = h.counts;
    in_budget = h.in_budget;
    not_empty = h.not_empty;
    ascending = h.ascending;
    distinct = h.distinct;
    literals = All-weaker (MayLearn kb s.asked) (λ l. IsTrue (may_learn (length kb.facts + s.asked.candidate) facts l))
        (λ l t. (told kb s.asked facts are l).1 t) clause h.literals;
  }

  -- it speaks of variables of the checker alone
  pub learned_below : (live : List (List ℕ)) (variables : ℕ) → length kb.facts + s.asked.candidate < variables → LearnAt kb live s number clause
      → AreBelow variables clause
  learned_below live variables size h = literals_below kb s.asked variables clause size h.literals

-- opposites have the same variables
pub opposites_below : (variables : ℕ) (clause : List ℕ) → AreBelow variables clause → AreBelow variables (map opposite_of clause)
opposites_below variables clause below = All-of (λ l. variable_of l < variables) (map opposite_of clause)
    (λ l m. let w = Contains-map_cases opposite_of clause l m in
    subst (λ (v : ℕ). v < variables) (sym (ap variable_of (sym w.2) ∙ variable_of-opposite_of w.0))
    (All-contains (λ l. variable_of l < variables) clause w.0 below w.1))
