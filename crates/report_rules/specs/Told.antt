-- What the lines so far tell of the head, the blocks, the conflicts and the answers. The lines stand newest first, and each
-- function says which kinds of line change it.
use Rattle.std.specs.Prelude.{◌≡◌, ℕ, suc, ◌<◌, List, [], ◌∷◌, ◌++◌, Bool, true, false, if◌then◌else◌, ◌==◌, length}
use Rattle.cq_terms.specs.declared.facts.Repairs.{Repairs}
use Rattle.cq_terms.specs.declared.facts.Repairs.TheVariants as mode
use Rattle.cq_terms.specs.Query.{Query}
use Rattle.report_text.specs.declared.line.Line.{Line}
use Rattle.report_text.specs.declared.line.Line.TheVariants as line
use Rattle.report_text.specs.declared.line.Verdict.{Verdict}
use Rattle.report_text.specs.declared.line.Origin.{Origin}
use Rattle.report_text.specs.declared.line.Origin.TheVariants as origin
use Rattle.report_rules.specs.Inputs.{Input, Session, query_at}

-- which repairs are asked about
abbrev pub mode_of : List Line → Repairs
mode_of [] = mode.All
mode_of (line.Head axioms budget facts keep repairs version ∷ before) = repairs
mode_of (_ ∷ before) = mode_of before

-- how many clauses may be learned in one question of one answer
abbrev pub budget_of : List Line → ℕ
budget_of [] = 0
budget_of (line.Head axioms budget facts keep repairs version ∷ before) = budget
budget_of (_ ∷ before) = budget_of before

-- how many learned clauses may live before some are forgotten
abbrev pub keep_of : List Line → ℕ
keep_of [] = 0
keep_of (line.Head axioms budget facts keep repairs version ∷ before) = keep
keep_of (_ ∷ before) = keep_of before

-- whether the two name the same block
abbrev pub same_origin : Origin → Origin → Bool
same_origin origin.Query origin.Query = true
same_origin (origin.Negative i) (origin.Negative j) = i == j
same_origin _ _ = false

-- whether it is the query's block
abbrev pub is_query : Origin → Bool
is_query origin.Query = true
is_query (origin.Negative i) = false

-- the queries of a block, oldest first; behind an `end` the query's block begins anew
abbrev pub block_of : Origin → List Line → List Query
block_of o [] = []
block_of o (line.Cq o' q step ∷ before) = if same_origin o o' then block_of o before ++ q ∷ [] else block_of o before
block_of o (line.End answers brave ar iar undecided ∷ before) = if is_query o then [] else block_of o before
block_of o (_ ∷ before) = block_of o before

-- the facts of the conflict lines, oldest first
abbrev pub conflicts_of : List Line → List (List ℕ)
conflicts_of [] = []
conflicts_of (line.Conflict facts rule member ∷ before) = conflicts_of before ++ facts ∷ []
conflicts_of (_ ∷ before) = conflicts_of before

-- how many queries are done with
abbrev pub count_ends : List Line → ℕ
count_ends [] = 0
count_ends (line.End answers brave ar iar undecided ∷ before) = suc (count_ends before)
count_ends (_ ∷ before) = count_ends before

-- the query whose part is told or comes
abbrev pub query_of : Input → List Line → Query
query_of input before = query_at input.queries (count_ends before)

-- in a session a query's block comes only while a query is left
abbrev pub HasQueryLeft : Input → List Line → Line → Type 0
HasQueryLeft input before (line.Cq origin.Query query step) = input.form ≡ Session → count_ends before < length input.queries
HasQueryLeft input before _ = Unit {0}

-- the tuples of the answers to this query, oldest first
abbrev pub answered : List Line → List (List ℕ)
answered [] = []
answered (line.Answer brave ar iar cores names tuple ∷ before) = answered before ++ tuple ∷ []
answered (line.End answers brave ar iar undecided ∷ before) = []
answered (_ ∷ before) = answered before

-- how many of these answers have verdicts that pass the test
abbrev pub count_answers : (Verdict → Verdict → Verdict → Bool) → List Line → ℕ
count_answers test [] = 0
count_answers test (line.Answer brave ar iar cores names tuple ∷ before) =
    if test brave ar iar then suc (count_answers test before) else count_answers test before
count_answers test (line.End answers brave ar iar undecided ∷ before) = 0
count_answers test (_ ∷ before) = count_answers test before
