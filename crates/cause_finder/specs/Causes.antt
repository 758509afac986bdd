-- What the answer on a query promises: exactly its candidates, each with exactly its causes and a member for each of them.
use Rattle.std.specs.Prelude.{◌≡◌, ℕ, ◌<◌, List, map, slice_get, Some, All}
use Rattle.std.specs.List.{AllZip}
use Rattle.cq_terms.specs.declared.axioms.Axiom.{Axiom}
use Rattle.cq_terms.specs.declared.facts.Fact.{Fact}
use Rattle.cq_terms.specs.Knowledge.{Knowledge, kb_of}
use Rattle.cq_terms.specs.Lists.{HasMore}
use Rattle.cq_terms.specs.Query.{Query}
use Rattle.cq_meaning.specs.Candidates.{AreCandidates, AreCauses}
use Rattle.cq_meaning.specs.Entailment.{HasImage}
use Rattle.cq_meaning.specs.Rewriting.{IsSupport}
use Rattle.cq_steps.specs.declared.closure.Member.{Member}
use Rattle.query_matching.specs.Hits.{IsBefore}
use Rattle.cause_finder.specs.declared.candidate.Candidate.{Candidate}

-- the member at the place has a match with the tuple and exactly that image
abbrev pub MatchesAt : List Fact → List Member → List ℕ → List ℕ → ℕ → Type 0
MatchesAt facts members tuple image place = (m : Member) × (slice_get members place ≡ Some m) × HasImage facts m.query tuple image

-- the place is the least one of such a member
pub record IsLeastMember (facts : List Fact) (members : List Member) (tuple image : List ℕ) (place : ℕ) : Type 0 where
  pub matches : MatchesAt facts members tuple image place
  pub least : (i : ℕ) → i < place → ¬ MatchesAt facts members tuple image i

-- each cause of the candidate has its least member
abbrev pub HasLeastMembers : List Fact → List Member → Candidate → Type 0
HasLeastMembers facts members c = AllZip (IsLeastMember facts members c.tuple) c.causes c.members

-- exactly the candidates of the query in order, each with exactly its causes, and the least member for each cause
pub record AreAnswers (axioms : List Axiom) (facts : List Fact) (q : Query) (members : List Member) (answers : List Candidate) : Type 0 where
  pub candidates : AreCandidates (kb_of axioms facts) q (map (λ c. c.tuple) answers)
  pub causes : All (λ c. AreCauses (kb_of axioms facts) q c.tuple c.causes) answers
  pub least : All (HasLeastMembers facts members) answers

-- there are more pairs of a tuple and a support of it than the limit, in order and each once
abbrev pub HasMoreSupports : Knowledge → Query → ℕ → Type 0
HasMoreSupports kb q limit = HasMore IsBefore (λ s. IsSupport kb q s.tuple s.image) limit
