-- What a try looks for, which core shows that there is one, and when no direct core does.
use Rattle.std.specs.Prelude.{◌≡◌, ◌<◌, ◌^◌, ℕ, List, [], ◌∷◌, map, All, Contains}
use Rattle.clause_meaning.specs.Refutation.{IsWithin}
use Rattle.cq_terms.specs.Conflicts.{ConflictGraph, AreInConflict}
use Rattle.cq_terms.specs.Lists.{IsAscending}
use Rattle.priority_graph.specs.Priority.{Priority}
use Rattle.priority_graph.specs.Cores.{IsCore, ConflictsWith}
use Rattle.repair_clauses.specs.BaseClauses.{present, absent}
use Rattle.report_text.specs.declared.line.Question.{Question}
use Rattle.report_text.specs.declared.line.Question.TheVariants as question
use Rattle.answer_evidence.specs.FreeCauses.{IsFreeCause}
use Rattle.answer_evidence.specs.Sets.{EachMeets}
use Rattle.answer_evidence.specs.declared.aim.Aim.{Aim}
use Rattle.answer_evidence.specs.declared.aim.Aim.TheVariants as aim

-- the question that it answers
abbrev pub asked_for : Aim → Question
asked_for (aim.WithCause cause) = question.Brave
asked_for (aim.WithoutFact fact) = question.Iar
asked_for (aim.WithoutCauses causes) = question.Ar

-- what is assumed for it, by the selector of the candidate
abbrev pub assumed_for : Aim → ℕ → List ℕ
assumed_for (aim.WithCause cause) selector = map present cause.now
assumed_for (aim.WithoutFact fact) selector = absent fact ∷ []
assumed_for (aim.WithoutCauses causes) selector = present selector ∷ []

-- its facts have literals below 2^32
abbrev pub IsFewFor : Aim → Type 0
IsFewFor (aim.WithCause cause) = All (λ f. f < 2 ^ 31) cause.now
IsFewFor (aim.WithoutFact fact) = fact < 2 ^ 31
IsFewFor (aim.WithoutCauses causes) = Unit {0}

-- a fact that it speaks of is one of the table, and a cause is free
abbrev pub IsKnown : Priority → Aim → Type 0
IsKnown p (aim.WithCause cause) = IsFreeCause p cause.now
IsKnown p (aim.WithoutFact fact) = fact < p.facts
IsKnown p (aim.WithoutCauses causes) = Unit {0}

-- it is looked for over these causes: with one of them, without a fact of one, or without a fact of each
abbrev pub IsOver : List (List ℕ) → Aim → Type 0
IsOver causes (aim.WithCause cause) = Contains causes cause.now
IsOver causes (aim.WithoutFact fact) = (cause : List ℕ) × Contains causes cause × Contains cause fact
IsOver causes (aim.WithoutCauses all) = all.now ≡ causes

-- a core shows that there is one
abbrev pub Shows : Aim → List ℕ → List ℕ → Type 0
Shows (aim.WithCause cause) kept dropped = IsWithin cause.now kept
Shows (aim.WithoutFact fact) kept dropped = Contains dropped fact
Shows (aim.WithoutCauses causes) kept dropped = EachMeets causes.now dropped

-- no direct core shows it: that of the cause, or that of a fact in conflict with the fact
abbrev pub IsHard : Priority → ConflictGraph → Aim → Type 0
IsHard p g (aim.WithCause cause) = ¬ IsCore p (Contains cause.now) (ConflictsWith p cause.now)
IsHard p g (aim.WithoutFact fact) = (j : ℕ) → AreInConflict g.clashes fact j → ¬ IsCore p (Contains (j ∷ [])) (ConflictsWith p (j ∷ []))
IsHard p g (aim.WithoutCauses causes) = Unit {0}

-- a core over the priority as a line has it: ascending lists, of which the kept one is of facts of the table
pub record IsCoreOver (p : Priority) (kept dropped : List ℕ) : Type 0 where
  pub kept_ascending : IsAscending kept
  pub kept_known : All (λ i. i < p.facts) kept
  pub dropped_ascending : IsAscending dropped
  pub core : IsCore p (Contains kept) (Contains dropped)
