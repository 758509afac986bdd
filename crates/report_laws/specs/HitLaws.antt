-- The laws by which a reader finds out the conflicts and the candidates from what the members of closed blocks match.
use Rattle.std.specs.Prelude.{◌≡◌, ◌≢◌, ◌↔◌, ◌&&◌, ◌||◌, ◌++◌, ℕ, List, [], ◌∷◌, map, filter, filter_map, All, AllPairs, Any, Contains, Bool, not, Some}
use Rattle.std.specs.Prelude.{slice_get, if◌then◌else◌}
use Rattle.std.specs.List.{list_any, list_all}
use Rattle.std.specs.Str.{bytes_eq}
use Rattle.std.specs.Ordering.{nat_cmp}
use Rattle.std.specs.declared.cmp.Ordering.TheVariants.{Less}
use Rattle.std.specs.Cmp.Lexicographic.{slice_cmp}
use Rattle.cq_terms.specs.declared.axioms.Axiom.{Axiom}
use Rattle.cq_terms.specs.declared.facts.Fact.{Fact}
use Rattle.cq_terms.specs.Knowledge.{Knowledge, AreDistinct}
use Rattle.cq_terms.specs.Conflicts.{single, couple}
use Rattle.cq_terms.specs.Query.{Query}
use Rattle.cq_meaning.specs.Conflicts.{AreConflicts}
use Rattle.cq_meaning.specs.Entailment.{HasImage}
use Rattle.cq_meaning.specs.Rewriting.{IsClosure, IsSupport, disjointness_query}
use Rattle.cq_meaning.specs.RewritingLaws.{IsForbidden}
use Rattle.priority_graph.specs.Split.{has}
use Rattle.report_text.specs.declared.line.Line.{Line}
use Rattle.report_text.specs.declared.line.Origin.{Origin}
use Rattle.report_text.specs.declared.line.Origin.TheVariants as origin
use Rattle.report_rules.specs.declared.place.Place.TheVariants.{InBlock}
use Rattle.report_rules.specs.Inputs.{Input}
use Rattle.report_rules.specs.Order.{place_of, AreBlocksOver}
use Rattle.report_rules.specs.Told.{is_query, block_of}
use Rattle.report_rules.specs.Blocks.{IsClosedBlock}
use Rattle.report_rules.specs.Accepted.{AreRight}
use Rattle.report_laws.specs.Standing.{Block, blocks_of}
use Rattle.report_laws.specs.AtStanding.{Candidate, AreCandidatesOf}

-- ---- conflicts

-- the blocks are over, and the open one is closed
pub record OverAndClosed (input : Input) (before : List Line) : Type 0 where
  pub over : AreBlocksOver input.form input.kb.axioms (place_of before)
  pub closed : (o : Origin) → place_of before ≡ InBlock o → IsClosedBlock input.kb.axioms (block_of o before)

-- the members of the blocks of all disjointnesses
abbrev pub negative_members : List Block → List Query
negative_members [] = []
negative_members (b ∷ blocks) = if is_query b.origin then negative_members blocks else b.members ++ negative_members blocks

-- some query of the list matches in the table with the tuple and exactly these facts
abbrev pub IsHit : List Fact → List Query → List ℕ → List ℕ → Type 0
IsHit facts members tuple numbers = Any (λ q. HasImage facts q tuple numbers) members

-- where the blocks are over and the last is closed, each block of a disjointness is the closure of its query
abbrev pub NegativeBlocksStand : Type 0
NegativeBlocksStand = (input : Input) (before : List Line) → AreRight input before → OverAndClosed input before
    → (i : ℕ) (rule : Axiom) (q : Query) → slice_get input.kb.axioms i ≡ Some rule → disjointness_query rule ≡ Some q
    → IsClosure input.kb.axioms q (block_of (origin.Negative i) before)

-- and what their members match with is what is forbidden
abbrev pub ForbiddenAreHits : Type 0
ForbiddenAreHits = (input : Input) (before : List Line) → AreRight input before → OverAndClosed input before → (numbers : List ℕ)
    → IsForbidden input.kb numbers ↔ IsHit input.kb.facts (negative_members (blocks_of before)) [] numbers

-- each list stands once, in lexicographic order
abbrev pub AreInOrder : List (List ℕ) → Type 0
AreInOrder lists = AllPairs (λ a b. slice_cmp nat_cmp a b ≡ Less) lists

-- the facts that are forbidden by themselves
abbrev pub owns_of : List (List ℕ) → List ℕ
owns_of images = filter_map single images

-- the pairs that are forbidden while neither is by itself
abbrev pub pairs_of : List (List ℕ) → List (ℕ × ℕ)
pairs_of images = filter (λ p. not (has (owns_of images) p.0 || has (owns_of images) p.1)) (filter_map couple images)

-- the forbidden sets tell the conflicts
abbrev pub ForbiddenTellConflicts : Type 0
ForbiddenTellConflicts = (kb : Knowledge) → AreDistinct kb.facts → (images : List (List ℕ)) → AreInOrder images
    → ((numbers : List ℕ) → Contains images numbers ↔ IsForbidden kb numbers) → AreConflicts kb (owns_of images) (pairs_of images)

-- ---- candidates

-- a tuple and the images of its matches
pub record Group : Type 0 where
  pub tuple : List ℕ
  pub images : List (List ℕ)

-- the tuples in order, each with exactly its supports in order
pub record AreSupports (kb : Knowledge) (q : Query) (groups : List Group) : Type 0 where
  pub tuples : AreInOrder (map (λ (g : Group). g.tuple) groups)
  pub images : All (λ g. AreInOrder g.images) groups
  pub exact : (tuple numbers : List ℕ) → IsSupport kb q tuple numbers
      ↔ ((g : Group) × Contains groups g × (g.tuple ≡ tuple) × Contains g.images numbers)
  pub some : (g : Group) → Contains groups g → g.images ≢ []

-- whether the facts have no self-inconsistent one and no two in conflict
abbrev pub is_free : List ℕ → List (ℕ × ℕ) → List ℕ → Bool
is_free owns pairs numbers = not (list_any (has numbers) owns) && not (list_any (λ p. has numbers p.0 && has numbers p.1) pairs)

-- whether the one list has all of the other
abbrev pub has_all : List ℕ → List ℕ → Bool
has_all numbers others = list_all (has numbers) others

-- whether no image lies within it but itself
abbrev pub is_least : List (List ℕ) → List ℕ → Bool
is_least images numbers = list_all (λ other. not (has_all numbers other) || bytes_eq other numbers) images

-- the free images within which there is no other
abbrev pub causes_of : List ℕ → List (ℕ × ℕ) → List (List ℕ) → List (List ℕ)
causes_of owns pairs images = filter (λ numbers. is_free owns pairs numbers && is_least images numbers) images

-- the candidates of the groups
abbrev pub candidates_of : List ℕ → List (ℕ × ℕ) → List Group → List Candidate
candidates_of owns pairs groups = map (λ (g : Group). record { tuple = g.tuple; causes = causes_of owns pairs g.images }) groups

-- the supports and the conflicts tell the candidates, each with its causes
abbrev pub SupportsTellCandidates : Type 0
SupportsTellCandidates = (kb : Knowledge) → AreDistinct kb.facts → (q : Query) (owns : List ℕ) (pairs : List (ℕ × ℕ))
    → AreConflicts kb owns pairs → (groups : List Group) → AreSupports kb q groups
    → AreCandidatesOf kb q (candidates_of owns pairs groups)

-- over a closure of the query the hits of its members are the supports
abbrev pub HitsAreSupports : Type 0
HitsAreSupports = (kb : Knowledge) (q : Query) (members : List Query) → IsClosure kb.axioms q members → (tuple numbers : List ℕ)
    → IsSupport kb q tuple numbers ↔ IsHit kb.facts members tuple numbers

-- the laws of hits
pub record LawsOfHits : Type 0 where
  pub stand : NegativeBlocksStand
  pub forbidden : ForbiddenAreHits
  pub conflicts : ForbiddenTellConflicts
  pub supports : HitsAreSupports
  pub candidates : SupportsTellCandidates
