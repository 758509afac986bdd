use Rattle.std.proofs.Common.{Contains, inl, inr, subst}
use Rattle.clause_meaning.specs.Assignments.{Satisfies}
use Rattle.clause_meaning.proofs.Members.{Contains-cons_cases, Contains-tail}
use Rattle.clause_meaning.proofs.Truth.{following_is_true}
use Rattle.clause_meaning.proofs.laws.following_clause_keeps_assignments.Goals as goal

pub returns : goal.returns
returns c S clause f v = (
  λ s d m. elim (Contains-cons_cases clause S d m) [ inl e ↦ subst (Satisfies v) e (following_is_true (Contains S) clause f v s) | inr t ↦ s d t ],
  λ s d m. s d (Contains-tail clause S d m),
)
