-- Facts in ascending order, each once, have the same base clauses.
use Rattle.std.proofs.Common.{◌<◌, ◌↔◌, ℕ, List, Contains, All}
use Rattle.std.proofs.lemmas.List.Elements.{All-contains, All-weaker}
use Rattle.clause_meaning.specs.Literals.{variable_of}
use Rattle.cq_meaning.proofs.Ascending.{All-of}
use Rattle.cq_terms.specs.Lists.{IsSorted}
use Rattle.priority_graph.specs.Priority.{Priority}
use Rattle.repair_clauses.specs.BaseClauses.{IsBaseClause}
use Rattle.repair_clauses.specs.Components.{IsClosedUnder}
use Rattle.repair_clauses.proofs.LawLemmas.{base_wider}
use Rattle.repair_encoder.specs.Forms.{HasForm}

module _ (facts sorted : List ℕ) (h : IsSorted facts sorted) where
  pub sorted_known : (bound : ℕ) → All (λ f. f < bound) facts → All (λ f. f < bound) sorted
  sorted_known bound known = All-of (λ f. f < bound) sorted (λ f m. All-contains (λ f. f < bound) facts f known ((h.same f).0 m))

  pub sorted_closed : (R : ℕ → ℕ → Type 0) → IsClosedUnder R (Contains facts) → IsClosedUnder R (Contains sorted)
  sorted_closed R closed i j m r = (h.same j).1 (closed i j ((h.same i).0 m) r)

  form : (c : List ℕ) → HasForm sorted c → HasForm facts c
  form c f = record {
    some = f.some;
    ascending = f.ascending;
    distinct = f.distinct;
    inside = All-weaker (λ l. Contains sorted (variable_of l)) (λ l. Contains facts (variable_of l)) (λ l m. (h.same (variable_of l)).0 m) c f.inside;
  }

  pub sorted_form : (clauses : List (List ℕ)) → All (HasForm sorted) clauses → All (HasForm facts) clauses
  sorted_form clauses all = All-weaker (HasForm sorted) (HasForm facts) form clauses all

  pub sorted_exact : (p : Priority) (clauses : List (List ℕ)) → ((c : List ℕ) → Contains clauses c ↔ IsBaseClause p (Contains sorted) c) → (c : List ℕ)
      → Contains clauses c ↔ IsBaseClause p (Contains facts) c
  sorted_exact p clauses exact c = (
    (λ m. base_wider p (Contains sorted) (Contains facts) c (λ f n. (h.same f).0 n) ((exact c).0 m)),
    (λ b. (exact c).1 (base_wider p (Contains facts) (Contains sorted) c (λ f n. (h.same f).1 n) b)),
  )
