-- A cycle of the priority, and its text.
use Rattle.std.specs.Prelude.{ℕ, ◌<◌, List, [], ◌∷◌, ◌++◌, length, codes, get_or, slice_get, Option, Some, None}
use Rattle.std.specs.List.{filter_map, flat_map}
use Rattle.cq_terms.specs.declared.facts.Fact.{Fact}
use Rattle.cq_terms.specs.declared.facts.Fact.TheVariants as fact
use Rattle.cq_terms.specs.declared.names.Vocab.{Vocab}

-- facts in the order of a cycle, by numbers, and the names of the numbers
pub record NamedCycle : Type 0 where
  pub facts : List Fact
  pub vocab : Vocab

-- the numbers of the fact have names
abbrev pub IsNamedFact : Vocab → Fact → Type 0
IsNamedFact vocab (fact.Concept pred ind) = (pred < length vocab.concepts) × (ind < length vocab.inds)
IsNamedFact vocab (fact.Link pred from to) = (pred < length vocab.roles) × (from < length vocab.inds) × (to < length vocab.inds)

-- the text of the number, or nothing where it has none
abbrev pub name_at : List (List ℕ) → ℕ → List ℕ
name_at names number = get_or names number []

-- `A(a)`, or `P(a,b)`
abbrev pub fact_text : Vocab → Fact → List ℕ
fact_text vocab (fact.Concept pred ind) = name_at vocab.concepts pred ++ (codes "(" ++ (name_at vocab.inds ind ++ codes ")"))
fact_text vocab (fact.Link pred from to) =
    name_at vocab.roles pred ++ (codes "(" ++ (name_at vocab.inds from ++ (codes "," ++ (name_at vocab.inds to ++ codes ")"))))

-- the facts, separated by a comma and a space
abbrev pub facts_text : Vocab → List Fact → List ℕ
facts_text vocab [] = []
facts_text vocab (one ∷ []) = fact_text vocab one
facts_text vocab (one ∷ facts) = fact_text vocab one ++ (codes ", " ++ facts_text vocab facts)

-- the facts of these numbers
abbrev pub facts_at : List Fact → List ℕ → List Fact
facts_at facts numbers = filter_map (λ number. slice_get facts number) numbers

-- a comma, a space and the fact, where there is one
abbrev pub later_fact : Vocab → Option Fact → List ℕ
later_fact vocab None = []
later_fact vocab (Some fact) = codes ", " ++ fact_text vocab fact

-- the facts of these numbers, a comma and a space before each
abbrev pub later_text : Vocab → List Fact → List ℕ → List ℕ
later_text vocab facts numbers = flat_map (λ number. later_fact vocab (slice_get facts number)) numbers

-- what the text of a cycle says after `cqapri: `
abbrev pub cycle_text : NamedCycle → List ℕ
cycle_text cycle = codes "priority: cycle: " ++ facts_text cycle.vocab cycle.facts

-- the text of a cycle, one line
abbrev pub cycle_line : NamedCycle → List ℕ
cycle_line cycle = codes "cqapri: " ++ (cycle_text cycle ++ 10 ∷ [])
