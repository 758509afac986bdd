-- What is asked of a preparation, and what its refusals name.
use Rattle.std.proofs.Common.{ℕ, ◌<◌, List, [], ◌∷◌, length, All}
use Rattle.std.proofs.lemmas.List.Elements.{All-cons, All-contains, All-nil, All-weaker}
use Rattle.cq_terms.specs.Knowledge.{Knowledge, NameFacts}
use Rattle.cq_terms.specs.Query.{Query}
use Rattle.cq_terms.specs.declared.facts.Fact.{Fact}
use Rattle.cq_terms.specs.declared.facts.Fact.TheVariants as fact
use Rattle.cq_terms.specs.declared.facts.Pair.{Pair}
use Rattle.cq_terms.specs.declared.facts.Repairs.{Repairs}
use Rattle.cq_terms.specs.declared.names.Vocab.{Vocab}
use Rattle.cq_terms.specs.declared.query.Term.{Term}
use Rattle.cq_terms.specs.declared.query.Term.TheVariants as term
use Rattle.cq_meaning.specs.Repairs.{IsBetter}
use Rattle.priority_graph.specs.Relations.{Chain, IsCycle}
use Rattle.preparation.specs.Prepared.{IsFactBelow, IsTermBelow}
use Rattle.preparation.specs.Refusals.{IsRefused}
use Rattle.preparation.specs.declared.limits.Limits.{Limits}
use Rattle.preparation.specs.declared.refusal.PrepareRefusal.{PrepareRefusal}
use Rattle.preparation.specs.declared.refusal.PrepareRefusal.TheVariants as prepare
use Rattle.cqapri_words.specs.Cycles.{IsNamedFact}
use Rattle.input_files.specs.Bounds.{IsBounded, IsNamedTerm}
use Rattle.cqapri_cli.specs.Limits.{NamesFacts}

-- the facts of a priority are facts
is_fact : (kb : Knowledge) (mode : Repairs) → NameFacts kb.facts kb.pairs → (i j : ℕ) → IsBetter kb mode i j → i < length kb.facts
is_fact kb mode named i j w =
    (All-contains (λ (p : Pair). (p.upper < length kb.facts) × (p.lower < length kb.facts)) kb.pairs (record { upper = i; lower = j }) named w.listed).0

chain_within : (kb : Knowledge) (mode : Repairs) → NameFacts kb.facts kb.pairs → (i : ℕ) (list : List ℕ) (end : ℕ) → Chain (IsBetter kb mode) i list end
    → All (λ n. n < length kb.facts) (i ∷ list)
chain_within kb mode named i [] end c = All-cons _ i [] (is_fact kb mode named i end c) (All-nil (λ (n : ℕ). n < length kb.facts))
chain_within kb mode named i (j ∷ list) end c =
    All-cons (λ (n : ℕ). n < length kb.facts) i (j ∷ list) (is_fact kb mode named i j c.0) (chain_within kb mode named j list end c.1)

-- those of a cycle are
pub cycle_of_facts : (kb : Knowledge) (mode : Repairs) (numbers : List ℕ) → NameFacts kb.facts kb.pairs → IsCycle (IsBetter kb mode) numbers
    → All (λ n. n < length kb.facts) numbers
cycle_of_facts kb mode [] named w = All-nil (λ (n : ℕ). n < length kb.facts)
cycle_of_facts kb mode (i ∷ list) named w = chain_within kb mode named i list i w.closed

pub refused_names_facts : (kb : Knowledge) (q : Query) (mode : Repairs) (limits : Limits) (why : PrepareRefusal) → NameFacts kb.facts kb.pairs
    → IsRefused kb q mode limits why → NamesFacts kb.facts why
refused_names_facts kb q mode limits prepare.Members named w = tt
refused_names_facts kb q mode limits prepare.Conflicts named w = tt
refused_names_facts kb q mode limits (prepare.Cycle numbers) named w = cycle_of_facts kb mode numbers named w.2
refused_names_facts kb q mode limits prepare.Supports named w = tt
refused_names_facts kb q mode limits prepare.NoMemory named w = tt

-- names of individuals
fact_below : (vocab : Vocab) (f : Fact) → IsNamedFact vocab f → IsFactBelow (length vocab.inds) f
fact_below vocab (fact.Concept a c) w = w.1
fact_below vocab (fact.Link p c d) w = (w.1, w.2)

term_below : (vocab : Vocab) (t : Term) → IsNamedTerm vocab t → IsTermBelow (length vocab.inds) t
term_below vocab (term.Ind c) w = w
term_below vocab (term.Var l) w = tt
term_below vocab term.Any w = tt

pub facts_below : (kb : Knowledge) (q : Query) (vocab : Vocab) → IsBounded kb q vocab → All (IsFactBelow (length vocab.inds)) kb.facts
facts_below kb q vocab w = All-weaker (IsNamedFact vocab) (IsFactBelow (length vocab.inds)) (fact_below vocab) kb.facts w.facts

pub head_below : (kb : Knowledge) (q : Query) (vocab : Vocab) → IsBounded kb q vocab → All (IsTermBelow (length vocab.inds)) q.head
head_below kb q vocab w = All-weaker (IsNamedTerm vocab) (IsTermBelow (length vocab.inds)) (term_below vocab) q.head w.head
