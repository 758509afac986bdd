use Rattle.std.proofs.Common.{ℕ, ◌∷◌, [], arith, rules}
use Rattle.std.proofs.lemmas.List.Elements.{All-cons, All-nil}
use Rattle.cq_terms.specs.declared.query.Term.TheVariants.{Var}
use Rattle.cq_terms.specs.declared.query.QAtom.TheVariants as atom
use Rattle.cq_terms.specs.Query.{IsMeant, IsSafe}
use Rattle.cq_meaning.specs.Candidates.{concept_query}
use Rattle.confirmer_tests.proofs.registers.members_of.Goals as goal

-- a query for a concept is safe
concept_query_is_safe : (a : ℕ) → IsSafe (concept_query a)
concept_query_is_safe a = record {
  body = omega arith;
  head = All-cons (IsMeant (atom.Concept a (Var 0) ∷ [])) (Var 0) [] (search rules) (All-nil (IsMeant (atom.Concept a (Var 0) ∷ [])));
}

pub new-requires : goal.new-requires
new-requires c = record { safe = rw (c.in_ok-head.ensures.items, c.in_ok-body.ensures.items) (concept_query_is_safe c.args.concept) }
