-- What a reader keeps of the lines so far, and what each further line makes of it.
use Rattle.std.specs.Prelude.{◌+◌, ◌≡◌, ◌↔◌, ℕ, suc, List, [], ◌∷◌, ◌++◌, length, reverse, filter, Contains, Bool, true, not, if◌then◌else◌, Option, Some}
use Rattle.std.specs.Prelude.{None, slice_get}
use Rattle.cq_terms.specs.declared.facts.Repairs.{Repairs}
use Rattle.cq_terms.specs.Query.{Query}
use Rattle.priority_graph.specs.Split.{has}
use Rattle.report_text.specs.declared.line.Line.{Line}
use Rattle.report_text.specs.declared.line.Line.TheVariants as line
use Rattle.report_text.specs.declared.line.Origin.{Origin}
use Rattle.report_text.specs.declared.line.Question.{Question}
use Rattle.report_text.specs.declared.line.Question.TheVariants as question
use Rattle.report_text.specs.declared.line.How.{How}
use Rattle.report_rules.specs.declared.place.Place.{Place}
use Rattle.report_rules.specs.declared.place.Place.TheVariants as place
use Rattle.report_rules.specs.Inputs.{Input}
use Rattle.report_rules.specs.Order.{place_of}
use Rattle.report_rules.specs.Told.{mode_of, budget_of, keep_of, same_origin, is_query, block_of, conflicts_of, count_ends, answered, count_answers}
use Rattle.report_rules.specs.Tries.{Asked, asked, question_of, assumed, Tried, Ended, NamesCore, count_cores}
use Rattle.report_rules.specs.Live.{count_learned, same_question, learned_for, Learned, has_variable, learned}
use Rattle.report_rules.specs.Rules.{is_yes}
use Rattle.report_rules.specs.Accepted.{AreRight}
use Rattle.report_laws.specs.Laws.{tuples_of}
use Rattle.report_laws.specs.Summaries.{yes_to, any_open}

-- ---- lists in the place of relations

-- the queries of a block
pub record Block : Type 0 where
  pub origin : Origin
  pub members : List Query

-- the blocks with one more query: the block of the origin grows, and is new where there is none
abbrev pub with_query : List Block → Origin → Query → List Block
with_query [] o q = record { origin = o; members = q ∷ [] } ∷ []
with_query (b ∷ blocks) o q = if same_origin o b.origin then record b { members = b.members ++ q ∷ [] } ∷ blocks else b ∷ with_query blocks o q

-- the blocks in the order of their first lines; behind an `end` without the query's
abbrev pub blocks_of : List Line → List Block
blocks_of [] = []
blocks_of (line.Cq o q step ∷ before) = with_query (blocks_of before) o q
blocks_of (line.End answers brave ar iar undecided ∷ before) = filter (λ b. not (is_query b.origin)) (blocks_of before)
blocks_of (_ ∷ before) = blocks_of before

-- the queries of the block of the origin
abbrev pub members_at : List Block → Origin → List Query
members_at [] o = []
members_at (b ∷ blocks) o = if same_origin o b.origin then b.members else members_at blocks o

-- the lists of a core
pub record Core : Type 0 where
  pub kept : List ℕ
  pub dropped : List ℕ

-- the cores of the `core` lines, oldest first: the place of a core is its number
abbrev pub cores_of : List Line → List Core
cores_of [] = []
cores_of (line.Core number kept dropped ∷ before) = cores_of before ++ record { kept = kept; dropped = dropped } ∷ []
cores_of (_ ∷ before) = cores_of before

-- a try that has ended
pub record EndedTry : Type 0 where
  pub question : Question
  pub assume : List ℕ
  pub how : How

-- the tries of this answer that have ended, oldest first
abbrev pub ended_of : List Line → List EndedTry
ended_of [] = []
ended_of (line.Ask candidate tuple causes members ∷ before) = []
ended_of (line.Done how core ∷ before) =
    ended_of before ++ record { question = question_of before; assume = assumed before; how = how } ∷ []
ended_of (_ ∷ before) = ended_of before

-- the number, where there is one
abbrev pub one_number : Option ℕ → List ℕ
one_number None = []
one_number (Some n) = n ∷ []

-- the cores that `done` lines of this answer name, oldest first
abbrev pub named_of : List Line → List ℕ
named_of [] = []
named_of (line.Ask candidate tuple causes members ∷ before) = []
named_of (line.Done how core ∷ before) = named_of before ++ one_number core
named_of (_ ∷ before) = named_of before

-- how many `conflict` lines there are
abbrev pub count_conflicts : List Line → ℕ
count_conflicts [] = 0
count_conflicts (line.Conflict facts rule member ∷ before) = suc (count_conflicts before)
count_conflicts (_ ∷ before) = count_conflicts before

-- how many `answer` lines there are
abbrev pub count_all_answers : List Line → ℕ
count_all_answers [] = 0
count_all_answers (line.Answer brave ar iar cores names tuple ∷ before) = suc (count_all_answers before)
count_all_answers (_ ∷ before) = count_all_answers before

-- ---- the whole

-- what is kept of the lines
pub record Standing : Type 0 where
  pub place : Place
  pub repairs : Repairs
  pub budget : ℕ
  pub keep : ℕ
  pub blocks : List Block
  pub told : ℕ
  pub ends : ℕ
  pub asked : Asked
  pub question : Question
  pub assumed : List ℕ
  pub ended : List EndedTry
  pub named : List ℕ
  pub cores : List Core
  pub learned : List Learned
  pub learn_lines : ℕ
  pub in_brave : ℕ
  pub in_iar : ℕ
  pub in_ar : ℕ
  pub answers : ℕ
  pub brave : ℕ
  pub ar : ℕ
  pub iar : ℕ
  pub undecided : ℕ
  pub total : ℕ

-- what is kept of the lines so far, over so many facts
abbrev pub standing_of : ℕ → List Line → Standing
standing_of facts before = record {
  place = place_of before;
  repairs = mode_of before;
  budget = budget_of before;
  keep = keep_of before;
  blocks = blocks_of before;
  told = count_conflicts before;
  ends = count_ends before;
  asked = asked before;
  question = question_of before;
  assumed = assumed before;
  ended = ended_of before;
  named = named_of before;
  cores = cores_of before;
  learned = learned facts before;
  learn_lines = count_learned before;
  in_brave = learned_for question.Brave before;
  in_iar = learned_for question.Iar before;
  in_ar = learned_for question.Ar before;
  answers = count_answers (λ b a i. true) before;
  brave = count_answers (yes_to question.Brave) before;
  ar = count_answers (yes_to question.Ar) before;
  iar = count_answers (yes_to question.Iar) before;
  undecided = count_answers any_open before;
  total = count_all_answers before;
}

-- how many clauses were learned in the question
abbrev pub learned_in : Standing → Question → ℕ
learned_in s question.Brave = s.in_brave
learned_in s question.Iar = s.in_iar
learned_in s question.Ar = s.in_ar

-- one more, where the test passes
abbrev pub counted : Bool → ℕ → ℕ
counted test n = if test then suc n else n

-- what one more line makes of what is kept
abbrev pub after : ℕ → Standing → Line → Standing
after facts s (line.Head axioms budget count keep repairs version) =
    record s { place = place.AfterHead; repairs = repairs; budget = budget; keep = keep }
after facts s (line.Cq o q step) = record s { place = place.InBlock o; blocks = with_query s.blocks o q }
after facts s (line.Conflict numbers rule member) = record s { place = place.InConflicts; told = suc s.told }
after facts s (line.Ask candidate tuple causes members) = record s {
  place = place.InAnswer;
  asked = record { candidate = candidate; tuple = tuple; causes = causes };
  ended = [];
  named = [];
  in_brave = 0;
  in_iar = 0;
  in_ar = 0;
}
after facts s (line.Try q assume) = record s { place = place.InTry; question = q; assumed = assume }
after facts s (line.Learn number clause) = record s {
  place = place.InTry;
  learned = s.learned ++ record { number = number; clause = clause } ∷ [];
  learn_lines = suc s.learn_lines;
  in_brave = counted (same_question question.Brave s.question) s.in_brave;
  in_iar = counted (same_question question.Iar s.question) s.in_iar;
  in_ar = counted (same_question question.Ar s.question) s.in_ar;
}
after facts s (line.Core number kept dropped) =
    record s { place = place.AfterCore; cores = s.cores ++ record { kept = kept; dropped = dropped } ∷ [] }
after facts s (line.Done how core) = record s {
  place = place.InAnswer;
  ended = s.ended ++ record { question = s.question; assume = s.assumed; how = how } ∷ [];
  named = s.named ++ one_number core;
}
after facts s (line.Forget numbers) =
    record s { place = place.AfterForget; learned = filter (λ c. not (has numbers c.number)) s.learned }
after facts s (line.Answer brave ar iar cores names tuple) = record s {
  place = place.AfterAnswer;
  learned = filter (λ c. not (has_variable (facts + s.asked.candidate) c.clause)) s.learned;
  answers = suc s.answers;
  brave = counted (is_yes brave) s.brave;
  ar = counted (is_yes ar) s.ar;
  iar = counted (is_yes iar) s.iar;
  undecided = counted (any_open brave ar iar) s.undecided;
  total = suc s.total;
}
after facts s (line.End answers brave ar iar undecided) = record s {
  place = place.AtEnd;
  blocks = filter (λ b. not (is_query b.origin)) s.blocks;
  ends = suc s.ends;
  answers = 0;
  brave = 0;
  ar = 0;
  iar = 0;
  undecided = 0;
}

-- ---- the laws

-- what is kept of one more line is what this line makes of what was kept
abbrev pub LinesMoveOn : Type 0
LinesMoveOn = (facts : ℕ) (before : List Line) (line : Line)
    → standing_of facts (line ∷ before) ≡ after facts (standing_of facts before) line

-- each block is found by its origin
abbrev pub BlocksAreListed : Type 0
BlocksAreListed = (before : List Line) (o : Origin) → members_at (blocks_of before) o ≡ block_of o before

-- the tries of this answer that ended so are those of the list
abbrev pub EndedAreListed : Type 0
EndedAreListed = (before : List Line) (q : Question) (assume : List ℕ) (how : How)
    → Ended q assume how before ↔ Contains (ended_of before) (record { question = q; assume = assume; how = how })

-- between two tries each try of this answer has ended
abbrev pub TriedHaveEnded : Type 0
TriedHaveEnded = (input : Input) (before : List Line) → AreRight input before → place_of before ≡ place.InAnswer
    → (q : Question) (assume : List ℕ)
    → Tried q assume before ↔ ((how : How) × Contains (ended_of before) (record { question = q; assume = assume; how = how }))

-- the cores that this answer's `done` lines name are those of the list
abbrev pub NamedAreListed : Type 0
NamedAreListed = (before : List Line) (n : ℕ) → NamesCore before n ↔ Contains (named_of before) n

-- after right lines a core stands on an earlier line exactly where it has its place in the list
abbrev pub CoresAreListed : Type 0
CoresAreListed = (input : Input) (before : List Line) → AreRight input before → (n : ℕ) (kept dropped : List ℕ)
    → Contains before (line.Core n kept dropped) ↔ (slice_get (cores_of before) n ≡ Some (record { kept = kept; dropped = dropped }))

-- there are as many as `core` lines
abbrev pub CoresAreCounted : Type 0
CoresAreCounted = (before : List Line) → length (cores_of before) ≡ count_cores before

-- as many conflicts are told as there are `conflict` lines, and as many candidates are answered, of the query and in all, as answers
-- are counted
abbrev pub TellsCounts : Type 0
TellsCounts = (before : List Line) → (count_conflicts before ≡ length (conflicts_of before))
    × (count_answers (λ b a i. true) before ≡ length (answered before))
    × (count_all_answers before ≡ length (tuples_of (reverse before)))

-- the laws of what is kept
pub record LawsOfStanding : Type 0 where
  pub moves_on : LinesMoveOn
  pub blocks : BlocksAreListed
  pub ended : EndedAreListed
  pub tried : TriedHaveEnded
  pub named : NamedAreListed
  pub cores : CoresAreListed
  pub counted : CoresAreCounted
  pub counts : TellsCounts
