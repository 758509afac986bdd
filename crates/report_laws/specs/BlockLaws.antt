-- The laws of blocks: from their lines to closures, and from these to supports.
use Rattle.std.specs.Prelude.{◌≡◌, ◌≢◌, ℕ, ◌<◌, ◌↔◌, List, [], Some, slice_get}
use Rattle.cq_terms.specs.declared.axioms.Axiom.{Axiom}
use Rattle.cq_terms.specs.Knowledge.{Knowledge}
use Rattle.cq_terms.specs.Query.{Query}
use Rattle.cq_meaning.specs.Rewriting.{IsClosure, IsSupport, disjointness_query}
use Rattle.report_text.specs.declared.line.Line.{Line}
use Rattle.report_text.specs.declared.line.Origin.TheVariants as origin
use Rattle.report_rules.specs.declared.place.Place.{Place}
use Rattle.report_rules.specs.declared.place.Place.TheVariants.{AtStart, AfterHead, InBlock}
use Rattle.report_rules.specs.Inputs.{Input, Form, Session}
use Rattle.report_rules.specs.Order.{place_of}
use Rattle.report_rules.specs.Told.{block_of, query_of}
use Rattle.report_rules.specs.Blocks.{IsClosedBlock}
use Rattle.report_rules.specs.Rules.{MemberMatches}
use Rattle.report_rules.specs.Accepted.{AreRight}

-- the place is past the block of the axiom with this number
abbrev pub IsPast : Form → Place → ℕ → Type 0
IsPast form AtStart i = ⊥
IsPast form AfterHead i = ⊥
IsPast form (InBlock origin.Query) i = form ≡ Session
IsPast form (InBlock (origin.Negative j)) i = i < j
IsPast form _ i = Unit {0}

-- past the block of a disjointness, after right lines, the block is the closure of its query
abbrev pub DisjointnessBlocksAreClosures : Type 0
DisjointnessBlocksAreClosures = (input : Input) (before : List Line) → AreRight input before → (i : ℕ) (rule : Axiom) (q : Query)
    → slice_get input.kb.axioms i ≡ Some rule → disjointness_query rule ≡ Some q → IsPast input.form (place_of before) i
    → IsClosure input.kb.axioms q (block_of (origin.Negative i) before)

-- the query's block, once it is closed, is the closure of the query
abbrev pub QueryBlockIsClosure : Type 0
QueryBlockIsClosure = (input : Input) (before : List Line) → AreRight input before → block_of origin.Query before ≢ []
    → IsClosedBlock input.kb.axioms (block_of origin.Query before)
    → IsClosure input.kb.axioms (query_of input before) (block_of origin.Query before)

-- over a closure the supports of a tuple are what its members match with exactly
abbrev pub SupportsAreMatches : Type 0
SupportsAreMatches = (kb : Knowledge) (q : Query) (members : List Query) → IsClosure kb.axioms q members → (tuple numbers : List ℕ)
    → IsSupport kb q tuple numbers ↔ ((place : ℕ) × MemberMatches kb.facts members place tuple numbers)
