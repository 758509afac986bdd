-- The blocks of queries: which query may come next in one, and when one is closed.
use Rattle.std.specs.Prelude.{◌≡◌, ℕ, ◌⊎◌, List, [], ◌∷◌, Contains, Option, Some, None, slice_get}
use Rattle.cq_terms.specs.declared.axioms.Axiom.{Axiom}
use Rattle.cq_terms.specs.Query.{Query}
use Rattle.cq_meaning.specs.NormalForm.{normal}
use Rattle.cq_meaning.specs.Rewriting.{IsSuccessor, disjointness_query}
use Rattle.cq_steps.specs.declared.moves.Move.{Move}
use Rattle.cq_steps.specs.Moves.{IsMove}
use Rattle.report_text.specs.declared.line.Line.{Line}
use Rattle.report_text.specs.declared.line.Line.TheVariants as line
use Rattle.report_text.specs.declared.line.Origin.{Origin}
use Rattle.report_text.specs.declared.line.Origin.TheVariants as origin
use Rattle.report_rules.specs.declared.place.Place.TheVariants.{InBlock}
use Rattle.report_rules.specs.Inputs.{Input}
use Rattle.report_rules.specs.Order.{place_of}
use Rattle.report_rules.specs.Told.{block_of, query_of}

-- the query is the normal form of what the block is of
abbrev pub IsOfOrigin : Input → List Line → Origin → Query → Type 0
IsOfOrigin input before origin.Query q = q ≡ normal (query_of input before)
IsOfOrigin input before (origin.Negative i) q = (rule : Axiom) × (slice_get input.kb.axioms i ≡ Some rule)
    × (disjointness_query rule ≡ Some q)

-- the query is the result of the move from the one at the place
abbrev pub IsResultAt : List Axiom → List Query → ℕ × Move → Query → Type 0
IsResultAt axioms members step q = (p : Query) × (slice_get members step.0 ≡ Some p) × IsMove axioms p step.1 q

-- the query may be the next of a block: its first, or new and the result of a move from an earlier one
abbrev pub MayJoin : Input → List Line → Origin → List Query → Query → Option (ℕ × Move) → Type 0
MayJoin input before o [] q None = IsOfOrigin input before o q
MayJoin input before o (first ∷ others) q (Some step) = IsResultAt input.kb.axioms (first ∷ others) step q
    × ¬ Contains (first ∷ others) q
MayJoin input before o _ q _ = ⊥

-- each result of a move on a query of the block is in it
abbrev pub IsClosedBlock : List Axiom → List Query → Type 0
IsClosedBlock axioms members = (p q : Query) → Contains members p → IsSuccessor axioms p q → Contains members q

-- the line is of the block
abbrev pub IsOfBlock : Origin → Line → Type 0
IsOfBlock o (line.Cq o' query step) = o' ≡ o
IsOfBlock o _ = ⊥

-- where a block is left, it is closed
abbrev pub LeavesClosed : Input → List Line → Line → Type 0
LeavesClosed input before line = (o : Origin) → place_of before ≡ InBlock o → IsOfBlock o line
    ⊎ IsClosedBlock input.kb.axioms (block_of o before)
