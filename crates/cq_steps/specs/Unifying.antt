-- What a unifier that the code holds makes of terms.
use Rattle.cq_terms.specs.declared.query.Term.{Term}
use Rattle.cq_meaning.specs.NormalForm.{substitute}
use Rattle.cq_steps.specs.declared.unify.Unifier.{Unifier}
use Rattle.cq_steps.specs.declared.unify.Unifier.TheVariants.{Nothing, Replace}
use Rattle.cq_steps.specs.declared.unify.Unified.{Unified}

-- the terms stay, or a variable becomes a term
abbrev pub meaning_of : Unifier → Term → Term
meaning_of Nothing = λ u. u
meaning_of (Replace l t) = substitute l t

-- what two atoms' unification makes of a term: first by the left terms, then by the right ones
abbrev pub term_under : Unified → Term → Term
term_under unified = λ u. meaning_of unified.then (meaning_of unified.first u)
