-- Which kind of line may come next. The lines stand newest first.
use Rattle.std.specs.Prelude.{Bool, true, false, ◌≡◌, ℕ, suc, ◌<◌, ◌≤◌, ◌⊎◌, List, [], ◌∷◌, Some, slice_get}
use Rattle.cq_terms.specs.declared.axioms.Axiom.{Axiom}
use Rattle.cq_terms.specs.Query.{Query}
use Rattle.cq_meaning.specs.Rewriting.{disjointness_query}
use Rattle.report_rules.specs.Inputs.{Form, OneQuery, Session}
use Rattle.report_text.specs.declared.line.Line.{Line}
use Rattle.report_text.specs.declared.line.Line.TheVariants as line
use Rattle.report_rules.specs.declared.place.Place.{Place}
use Rattle.report_rules.specs.declared.place.Place.TheVariants.{AtStart, AfterHead, InBlock, InConflicts, AfterForget, InAnswer, InTry, AfterCore}
use Rattle.report_rules.specs.declared.place.Place.TheVariants.{AfterAnswer, AtEnd}
use Rattle.report_text.specs.declared.line.Origin.{Origin}
use Rattle.report_text.specs.declared.line.Origin.TheVariants as origin

-- where the last line leaves the report
abbrev pub place_of : List Line → Place
place_of [] = AtStart
place_of (line.Head axioms budget facts keep repairs version ∷ before) = AfterHead
place_of (line.Cq o query step ∷ before) = InBlock o
place_of (line.Conflict facts rule member ∷ before) = InConflicts
place_of (line.Ask candidate tuple causes members ∷ before) = InAnswer
place_of (line.Try question assume ∷ before) = InTry
place_of (line.Learn number clause ∷ before) = InTry
place_of (line.Core number kept dropped ∷ before) = AfterCore
place_of (line.Done how core ∷ before) = InAnswer
place_of (line.Forget clauses ∷ before) = AfterForget
place_of (line.Answer brave ar iar cores names tuple ∷ before) = AfterAnswer
place_of (line.End answers brave ar iar undecided ∷ before) = AtEnd

-- whether the place is inside an answer
abbrev pub is_answering : Place → Bool
is_answering InAnswer = true
is_answering InTry = true
is_answering AfterCore = true
is_answering _ = false

-- whether an answer has begun and isn't over
abbrev pub is_open : List Line → Bool
is_open before = is_answering (place_of before)

-- the axiom of that number is a disjointness
abbrev pub IsNegativeAt : List Axiom → ℕ → Type 0
IsNegativeAt axioms i = (rule : Axiom) × (q : Query) × (slice_get axioms i ≡ Some rule) × (disjointness_query rule ≡ Some q)

-- the least number that the axiom of the next block can have
abbrev pub next_axiom : Origin → ℕ
next_axiom origin.Query = 0
next_axiom (origin.Negative i) = suc i

-- no further disjointness has a block after this one
abbrev pub IsLastBlock : List Axiom → Origin → Type 0
IsLastBlock axioms o = (i : ℕ) → next_axiom o ≤ i → ¬ IsNegativeAt axioms i

-- the second block is the next after the first
abbrev pub IsNextBlock : List Axiom → Origin → Origin → Type 0
IsNextBlock axioms o origin.Query = ⊥
IsNextBlock axioms o (origin.Negative j) = (next_axiom o ≤ j) × IsNegativeAt axioms j
    × ((i : ℕ) → next_axiom o ≤ i → i < j → ¬ IsNegativeAt axioms i)

-- the blocks of the disjointnesses are over, and the conflicts have their place
abbrev pub AreBlocksOver : Form → List Axiom → Place → Type 0
AreBlocksOver OneQuery axioms (InBlock o) = IsLastBlock axioms o
AreBlocksOver Session axioms (InBlock (origin.Negative i)) = IsLastBlock axioms (origin.Negative i)
AreBlocksOver Session axioms AfterHead = IsLastBlock axioms origin.Query
AreBlocksOver form axioms InConflicts = Unit {0}
AreBlocksOver form axioms _ = ⊥

-- a line of the block may come: the query's block stands first, or in a session at the beginning of each part
abbrev pub MayHaveBlock : Form → List Axiom → Place → Origin → Type 0
MayHaveBlock OneQuery axioms AfterHead o = o ≡ origin.Query
MayHaveBlock OneQuery axioms (InBlock o') o = (o ≡ o') ⊎ IsNextBlock axioms o' o
MayHaveBlock Session axioms AfterHead (origin.Negative j) = IsNextBlock axioms origin.Query (origin.Negative j)
MayHaveBlock Session axioms (InBlock (origin.Negative i)) (origin.Negative j) =
    (j ≡ i) ⊎ IsNextBlock axioms (origin.Negative i) (origin.Negative j)
MayHaveBlock Session axioms (InBlock origin.Query) origin.Query = Unit {0}
MayHaveBlock Session axioms AtEnd origin.Query = Unit {0}
MayHaveBlock Session axioms p origin.Query = AreBlocksOver Session axioms p
MayHaveBlock form axioms _ o = ⊥

-- an answer may begin, or the end come
abbrev pub IsBetweenAnswers : Form → List Axiom → Place → Type 0
IsBetweenAnswers form axioms AfterAnswer = Unit {0}
IsBetweenAnswers OneQuery axioms p = AreBlocksOver OneQuery axioms p
IsBetweenAnswers Session axioms (InBlock origin.Query) = Unit {0}
IsBetweenAnswers Session axioms _ = ⊥

-- the kind of line may come at the place
abbrev pub MayCome : Form → List Axiom → Place → Line → Type 0
MayCome form axioms p (line.Head _ _ _ _ _ _) = p ≡ AtStart
MayCome form axioms p (line.Cq o query step) = MayHaveBlock form axioms p o
MayCome form axioms p (line.Conflict _ _ _) = AreBlocksOver form axioms p
MayCome form axioms p (line.Forget _) = IsBetweenAnswers form axioms p
MayCome form axioms p (line.Ask _ _ _ _) = (p ≡ AfterForget) ⊎ IsBetweenAnswers form axioms p
MayCome form axioms p (line.Try _ _) = p ≡ InAnswer
MayCome form axioms p (line.Learn _ _) = p ≡ InTry
MayCome form axioms p (line.Core _ _ _) = p ≡ InTry
MayCome form axioms p (line.Done _ _) = (p ≡ InTry) ⊎ (p ≡ AfterCore)
MayCome form axioms p (line.Answer _ _ _ _ _ _) = p ≡ InAnswer
MayCome form axioms p (line.End _ _ _ _ _) = IsBetweenAnswers form axioms p
