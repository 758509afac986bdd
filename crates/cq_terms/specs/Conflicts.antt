-- What contracts see of the conflicts of a table: how many facts it has, and which facts clash.
use Rattle.std.specs.Prelude.{◌≡◌, ℕ, ◌<◌, ◌≤◌, ◌^◌, ◌⊎◌, List, [], ◌∷◌, length, All, AllPairs, Contains, Option, Some, None}
use Rattle.std.specs.List.{filter_map}
use Rattle.cq_terms.specs.declared.hits.Clash.{Clash}
use Rattle.cq_terms.specs.Lists.{IsAscending}

-- how many facts there are, and the clashes: facts that are self-inconsistent, and pairs in conflict
pub record ConflictGraph : Type 0 where
  pub facts : ℕ
  pub clashes : List Clash

-- the fact of a clash of one
abbrev pub single : List ℕ → Option ℕ
single [] = None
single (i ∷ []) = Some i
single (i ∷ j ∷ facts) = None

-- the facts of a clash of two
abbrev pub couple : List ℕ → Option (ℕ × ℕ)
couple [] = None
couple (i ∷ []) = None
couple (i ∷ j ∷ []) = Some (i, j)
couple (i ∷ j ∷ l ∷ facts) = None

-- the self-inconsistent facts, in the order of their clashes
abbrev pub own_facts : List Clash → List ℕ
own_facts clashes = filter_map (λ c. single c.facts) clashes

-- the pairs in conflict, in the order of their clashes
abbrev pub couples : List Clash → List (ℕ × ℕ)
couples clashes = filter_map (λ c. couple c.facts) clashes

-- the fact is self-inconsistent
abbrev pub IsOwn : List Clash → ℕ → Type 0
IsOwn clashes i = Contains (own_facts clashes) i

-- the two facts conflict
abbrev pub AreInConflict : List Clash → ℕ → ℕ → Type 0
AreInConflict clashes i j = Contains (couples clashes) (i, j) ⊎ Contains (couples clashes) (j, i)

-- one or two ascending facts of the table
abbrev pub IsOneOrTwo : ℕ → List ℕ → Type 0
IsOneOrTwo facts [] = ⊥
IsOneOrTwo facts (i ∷ []) = i < facts
IsOneOrTwo facts (i ∷ j ∷ []) = (i < j) × (j < facts)
IsOneOrTwo facts (i ∷ j ∷ l ∷ more) = ⊥

-- the first pair stands before the second in lexicographic order
abbrev pub IsBefore : ℕ × ℕ → ℕ × ℕ → Type 0
IsBefore p q = (p.0 < q.0) ⊎ ((p.0 ≡ q.0) × (p.1 < q.1))

-- clashes of one or two facts of the table, those of one fact first, each group ascending by its facts without repeats,
-- where no fact of a clash of two is a clash of one
pub record AreClashes (facts : ℕ) (clashes : List Clash) : Type 0 where
  pub few_facts : facts ≤ 2 ^ 31
  pub few : length clashes < 2 ^ 31
  pub each : All (λ c. IsOneOrTwo facts c.facts) clashes
  pub own_first : AllPairs (λ c d. length c.facts ≤ length d.facts) clashes
  pub own_ascending : IsAscending (own_facts clashes)
  pub couples_ascending : AllPairs IsBefore (couples clashes)
  pub apart : (i j : ℕ) → IsOwn clashes i → ¬ AreInConflict clashes i j
