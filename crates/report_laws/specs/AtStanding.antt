-- The rules of lines over what is kept of the lines before: each is what the rule says of the lines themselves.
use Rattle.std.specs.Prelude.{◌≡◌, ◌↔◌, ◌+◌, ◌<◌, ◌≤◌, ◌⊎◌, ◌/◌, ◌&&◌, ◌++◌, ℕ, List, [], ◌∷◌, length, map, filter, All, Contains, Bool, not, IsTrue, Option}
use Rattle.std.specs.Prelude.{Some, None, slice_get, nat_lt, if◌then◌else◌}
use Rattle.std.specs.List.{AllZip, list_any, list_all}
use Rattle.std.specs.Str.{bytes_eq}
use Rattle.cq_terms.specs.declared.facts.Repairs.{Repairs}
use Rattle.cq_terms.specs.Knowledge.{Knowledge}
use Rattle.cq_terms.specs.Query.{Query}
use Rattle.cq_meaning.specs.Conflicts.{Conflict}
use Rattle.cq_meaning.specs.Candidates.{AreCandidates, AreCauses}
use Rattle.cq_terms.specs.Lists.{IsAscending}
use Rattle.cq_meaning.specs.NormalForm.{normal}
use Rattle.cq_meaning.specs.Rewriting.{disjointness_query}
use Rattle.clause_meaning.specs.Literals.{HaveDistinctVariables, variable_of, opposite_of}
use Rattle.clause_meaning.specs.Refutation.{Refutes, ContainsOneOf}
use Rattle.priority_graph.specs.Split.{has}
use Rattle.priority_graph.specs.Priority.{Priority}
use Rattle.priority_graph.specs.Cores.{IsCore}
use Rattle.priority_graph.specs.Inputs.{IsPriorityOf}
use Rattle.repair_clauses.specs.BaseClauses.{present, absent}
use Rattle.cq_terms.specs.declared.axioms.Axiom.{Axiom}
use Rattle.cq_steps.specs.declared.moves.Move.{Move}
use Rattle.report_text.specs.declared.line.Line.{Line}
use Rattle.report_text.specs.declared.line.Line.TheVariants as line
use Rattle.report_text.specs.declared.line.Origin.{Origin}
use Rattle.report_text.specs.declared.line.Origin.TheVariants as origin
use Rattle.report_text.specs.declared.line.Question.{Question}
use Rattle.report_text.specs.declared.line.Question.TheVariants as question
use Rattle.report_text.specs.declared.line.Verdict.{Verdict}
use Rattle.report_text.specs.declared.line.How.{How}
use Rattle.report_text.specs.declared.line.How.TheVariants as how
use Rattle.report_rules.specs.declared.place.Place.TheVariants as place
use Rattle.report_rules.specs.Inputs.{Input, Form, Session, AreFacts, query_at}
use Rattle.report_rules.specs.ConflictLists.{AreConflictLists}
use Rattle.report_rules.specs.Order.{place_of, is_answering}
use Rattle.report_rules.specs.Told.{mode_of, query_of, block_of, conflicts_of, HasQueryLeft}
use Rattle.report_rules.specs.Tries.{question_of, assumed}
use Rattle.report_rules.specs.Blocks.{MayJoin, IsResultAt, IsClosedBlock, IsOfBlock, LeavesClosed}
use Rattle.report_rules.specs.Live.{same_question, Learned}
use Rattle.report_laws.specs.LiveLists.{AreBaseClauses, cause_clauses, AreLive}
use Rattle.report_rules.specs.TryRules.{turn_of, MayLearn, HasDirectCore, IsEasy, TryIsRight, LearnIsRight, CoreIsRight, DoneIsRight}
use Rattle.report_rules.specs.Rules.{MemberMatches, ConflictIsRight, LeavesNoneOut, AskIsRight, ForgetIsRight, AnswerIsRight, EndIsRight}
use Rattle.report_rules.specs.Accepted.{AreRight}
use Rattle.report_laws.specs.Standing.{Standing, standing_of, Core, EndedTry, members_at, learned_in}
use Rattle.report_laws.specs.Settling.{Evidence, cores_at, keeps, drops, is_settled, is_verdict}

-- ---- order, blocks

-- in a session a query's block comes only while a query is left
abbrev pub HasQueryLeftAt : Input → Standing → Line → Type 0
HasQueryLeftAt input s (line.Cq origin.Query query step) = input.form ≡ Session → s.ends < length input.queries
HasQueryLeftAt input s _ = Unit {0}

-- where a block is left, it is closed
abbrev pub LeavesClosedAt : Input → Standing → Line → Type 0
LeavesClosedAt input s line = (o : Origin) → s.place ≡ place.InBlock o → IsOfBlock o line
    ⊎ IsClosedBlock input.kb.axioms (members_at s.blocks o)

-- the query is the normal form of what the block is of
abbrev pub IsOfOriginAt : Input → Standing → Origin → Query → Type 0
IsOfOriginAt input s origin.Query q = q ≡ normal (query_at input.queries s.ends)
IsOfOriginAt input s (origin.Negative i) q = (rule : Axiom) × (slice_get input.kb.axioms i ≡ Some rule)
    × (disjointness_query rule ≡ Some q)

-- the query may be the next of a block with these members
abbrev pub JoinsAt : Input → Standing → Origin → List Query → Query → Option (ℕ × Move) → Type 0
JoinsAt input s o [] q None = IsOfOriginAt input s o q
JoinsAt input s o (first ∷ others) q (Some step) = IsResultAt input.kb.axioms (first ∷ others) step q
    × ¬ Contains (first ∷ others) q
JoinsAt input s o _ q _ = ⊥

-- ---- conflicts and candidates: `all` are all conflicts, and `candidates` those of the query, each with its causes

-- a candidate and its causes
pub record Candidate : Type 0 where
  pub tuple : List ℕ
  pub causes : List (List ℕ)

-- exactly the candidates of the query, each with exactly its causes
pub record AreCandidatesOf (kb : Knowledge) (q : Query) (candidates : List Candidate) : Type 0 where
  pub tuples : AreCandidates kb q (map (λ (c : Candidate). c.tuple) candidates)
  pub causes : All (λ c. AreCauses kb q c.tuple c.causes) candidates

-- the next of all conflicts, with a member that matches with exactly its facts
pub record ConflictAt (kb : Knowledge) (all : List (List ℕ)) (s : Standing) (facts : List ℕ) (rule member : ℕ) : Type 0 where
  pub next : slice_get all s.told ≡ Some facts
  pub found : MemberMatches kb.facts (members_at s.blocks (origin.Negative rule)) member [] facts

-- where the conflict lines are over, none is missing
abbrev pub LeavesNoneOutAt : Form → List (List ℕ) → Standing → Line → Type 0
LeavesNoneOutAt form all s (line.Cq origin.Query query step) = form ≡ Session → s.told ≡ length all
LeavesNoneOutAt form all s (line.Forget _) = s.told ≡ length all
LeavesNoneOutAt form all s (line.Ask _ _ _ _) = s.told ≡ length all
LeavesNoneOutAt form all s (line.End _ _ _ _ _) = s.told ≡ length all
LeavesNoneOutAt form all s _ = Unit {0}

-- the next candidate with its causes, each with a member that matches with exactly it
pub record AskAt (kb : Knowledge) (candidates : List Candidate) (s : Standing) (candidate : ℕ) (tuple : List ℕ)
    (causes : List (List ℕ)) (members : List ℕ) : Type 0 where
  pub number : candidate ≡ s.answers
  pub next : slice_get candidates s.answers ≡ Some (record { tuple = tuple; causes = causes })
  pub found : AllZip (λ cause place. MemberMatches kb.facts (members_at s.blocks origin.Query) place tuple cause) causes members

-- ---- tries

-- the evidence that is kept, with the cores of these numbers besides those of the answer's `done` lines
abbrev pub evidence_at : Knowledge → Standing → List ℕ → Evidence
evidence_at kb s numbers = record {
  selector = length kb.facts + s.asked.candidate;
  causes = s.asked.causes;
  ended = s.ended;
  cores = cores_at s.cores (s.named ++ numbers);
}

-- whether the question may be tried under the assumptions
abbrev pub may_assume : Evidence → Question → List ℕ → Bool
may_assume e question.Brave assume = list_any (λ cause. bytes_eq assume (map present cause)) e.causes
may_assume e question.Iar assume = list_any (λ cause. list_any (λ i. bytes_eq assume (absent i ∷ [])) cause) e.causes
may_assume e question.Ar assume = bytes_eq assume (present e.selector ∷ [])

-- whether the ended try doesn't come behind the question's turn
abbrev pub is_in_turn : Question → EndedTry → Bool
is_in_turn q t = not (nat_lt (turn_of q) (turn_of t.question))

-- whether the ended try is one of the question under the assumptions
abbrev pub is_such_try : Question → List ℕ → EndedTry → Bool
is_such_try q assume t = same_question t.question q && bytes_eq t.assume assume

-- whether the try is right
abbrev pub is_right_try : Evidence → Question → List ℕ → Bool
is_right_try e q assume = not (is_settled e q)
    && (list_all (is_in_turn q) e.ended && (not (list_any (is_such_try q assume) e.ended) && may_assume e q assume))

-- a new clause that follows from the live ones, while the budget lasts and the assumptions stand
pub record LearnAt (kb : Knowledge) (live : List (List ℕ)) (s : Standing) (number : ℕ) (clause : List ℕ) : Type 0 where
  pub counts : number ≡ s.learn_lines
  pub in_budget : learned_in s s.question < s.budget
  pub not_empty : 0 < length clause
  pub ascending : IsAscending clause
  pub distinct : HaveDistinctVariables clause
  pub literals : All (MayLearn kb s.asked) clause
  pub follows : Refutes (Contains live) (Contains (map opposite_of clause))
  pub new : ¬ ContainsOneOf (Contains live) clause
  pub needed : ¬ Refutes (Contains live) (Contains s.assumed)

-- two ascending lists of facts that are a core
pub record CoreAt (kb : Knowledge) (p : Priority) (s : Standing) (number : ℕ) (kept dropped : List ℕ) : Type 0 where
  pub counts : number ≡ length s.cores
  pub kept_ascending : IsAscending kept
  pub kept_facts : AreFacts kb kept
  pub dropped_ascending : IsAscending dropped
  pub dropped_facts : AreFacts kb dropped
  pub core : IsCore p (Contains kept) (Contains dropped)

-- the base clauses, those of the open answer's causes, and the learned ones
abbrev pub live_at : Knowledge → List (List ℕ) → Standing → List (List ℕ)
live_at kb base s = base ++ (if is_answering s.place then cause_clauses kb s.asked else []) ++ map (λ (c : Learned). c.clause) s.learned

-- the facts of the literals
abbrev pub facts_of : List ℕ → List ℕ
facts_of literals = map variable_of literals

-- a direct core shows what is asked of the facts
abbrev pub IsEasyAt : Knowledge → Repairs → Question → List ℕ → Type 0
IsEasyAt kb mode question.Brave facts = HasDirectCore kb mode facts
IsEasyAt kb mode question.Iar facts = (i : ℕ) × (j : ℕ) × Contains facts i × Conflict kb i j × HasDirectCore kb mode (j ∷ [])
IsEasyAt kb mode question.Ar facts = ⊥

-- whether the core shows what is asked: it keeps the facts, drops them, or drops a fact of every cause
abbrev pub shows : Evidence → Question → List ℕ → Core → Bool
shows e question.Brave facts core = keeps core facts
shows e question.Iar facts core = list_all (has core.dropped) facts
shows e question.Ar facts core = list_all (drops core) e.causes

-- the live clauses don't refute the assumptions, the whole budget of the question was learned, and the try isn't easy
pub record SpentAt (kb : Knowledge) (live : List (List ℕ)) (s : Standing) : Type 0 where
  pub not_refuted : ¬ Refutes (Contains live) (Contains s.assumed)
  pub budget : learned_in s s.question ≡ s.budget
  pub not_easy : ¬ IsEasyAt kb s.repairs s.question (facts_of s.assumed)

-- the live clauses refute the assumptions, the question is spent, or the core of the number shows what was asked
abbrev pub DoneAt : Knowledge → List (List ℕ) → Standing → How → Option ℕ → Type 0
DoneAt kb live s how.Refuted None = Refutes (Contains live) (Contains s.assumed)
DoneAt kb live s how.Spent None = SpentAt kb live s
DoneAt kb live s how.Model (Some n) = (core : Core) × (slice_get s.cores n ≡ Some core)
    × IsTrue (shows (evidence_at kb s []) s.question (facts_of s.assumed) core)
DoneAt kb live s _ _ = ⊥

-- ---- between answers

-- whether the learned clause of the number lives
abbrev pub is_learned : List Learned → ℕ → Bool
is_learned learned n = has (map (λ (c : Learned). c.number) learned) n

-- many learned clauses live, and of these at least half as many as may live stay
pub record ForgetAt (s : Standing) (numbers : List ℕ) : Type 0 where
  pub many : s.keep < length s.learned
  pub ascending : IsAscending numbers
  pub live : All (λ n. IsTrue (is_learned s.learned n)) numbers
  pub stay : s.keep / 2 ≤ length (filter (λ c. not (has numbers c.number)) s.learned)

-- the candidate that was asked, with its texts, the cores of its tries and earlier ones, and the verdicts that it has to have
pub record AnswerAt (kb : Knowledge) (texts : List (List ℕ)) (s : Standing) (brave ar iar : Verdict) (cores : List ℕ)
    (names : List (List ℕ)) (tuple : List ℕ) : Type 0 where
  pub same_tuple : tuple ≡ s.asked.tuple
  pub told_texts : AllZip (λ c text. slice_get texts c ≡ Some text) tuple names
  pub ascending : IsAscending cores
  pub earlier : All (λ n. n < length s.cores) cores
  pub complete : All (λ n. IsTrue (has cores n)) s.named
  pub brave_is : IsTrue (is_verdict (evidence_at kb s cores) question.Brave brave)
  pub ar_is : IsTrue (is_verdict (evidence_at kb s cores) question.Ar ar)
  pub iar_is : IsTrue (is_verdict (evidence_at kb s cores) question.Iar iar)

-- no candidate of the query is left, and its answers are counted
pub record EndAt (candidates : List Candidate) (s : Standing) (answers brave ar iar undecided : ℕ) : Type 0 where
  pub none_left : s.answers ≡ length candidates
  pub answers_count : answers ≡ s.answers
  pub brave_count : brave ≡ s.brave
  pub ar_count : ar ≡ s.ar
  pub iar_count : iar ≡ s.iar
  pub undecided_count : undecided ≡ s.undecided

-- ---- the laws

-- what right lines keep says of the rules what the lines do
pub record RulesAtStanding (input : Input) (before : List Line) (s : Standing) : Type 0 where
  pub query_left : (l : Line) → HasQueryLeftAt input s l ↔ HasQueryLeft input before l
  pub closed : (l : Line) → LeavesClosedAt input s l ↔ LeavesClosed input before l
  pub cq : (o : Origin) (q : Query) (step : Option (ℕ × Move))
      → JoinsAt input s o (members_at s.blocks o) q step ↔ MayJoin input before o (block_of o before) q step
  pub conflict : (all : List (List ℕ)) → AreConflictLists input.kb all → (facts : List ℕ) (rule member : ℕ)
      → ConflictAt input.kb all s facts rule member ↔ ConflictIsRight input before facts rule member
  pub complete : (all : List (List ℕ)) → AreConflictLists input.kb all
      → (AreConflictLists input.kb (conflicts_of before) ↔ (s.told ≡ length all))
      × ((l : Line) → LeavesNoneOutAt input.form all s l ↔ LeavesNoneOut input before l)
  pub ask : (candidates : List Candidate) → AreCandidatesOf input.kb (query_of input before) candidates
      → (candidate : ℕ) (tuple : List ℕ) (causes : List (List ℕ)) (members : List ℕ)
      → AskAt input.kb candidates s candidate tuple causes members ↔ AskIsRight input before candidate tuple causes members
  pub try' : place_of before ≡ place.InAnswer → (q : Question) (assume : List ℕ)
      → IsTrue (is_right_try (evidence_at input.kb s []) q assume) ↔ TryIsRight input before q assume
  pub learn : (live : List (List ℕ)) → AreLive input.kb before live → (number : ℕ) (clause : List ℕ)
      → LearnAt input.kb live s number clause ↔ LearnIsRight input before number clause
  pub live : (base : List (List ℕ)) → AreBaseClauses input.kb (mode_of before) base → AreLive input.kb before (live_at input.kb base s)
  pub core : (p : Priority) → IsPriorityOf input.kb (mode_of before) p → (number : ℕ) (kept dropped : List ℕ)
      → CoreAt input.kb p s number kept dropped ↔ CoreIsRight input before number kept dropped
  pub easy : (place_of before ≡ place.InTry) ⊎ (place_of before ≡ place.AfterCore)
      → IsEasyAt input.kb s.repairs s.question (facts_of s.assumed)
      ↔ IsEasy input.kb (mode_of before) (question_of before) (assumed before)
  pub done : (place_of before ≡ place.InTry) ⊎ (place_of before ≡ place.AfterCore) → (live : List (List ℕ))
      → AreLive input.kb before live → (how : How) (core : Option ℕ) → DoneAt input.kb live s how core ↔ DoneIsRight input before how core
  pub forget : (numbers : List ℕ) → ForgetAt s numbers ↔ ForgetIsRight input before numbers
  pub answer : (brave ar iar : Verdict) (cores : List ℕ) (names : List (List ℕ)) (tuple : List ℕ)
      → AnswerAt input.kb input.names s brave ar iar cores names tuple ↔ AnswerIsRight input before brave ar iar cores names tuple
  pub end : (candidates : List Candidate) → AreCandidatesOf input.kb (query_of input before) candidates
      → (answers brave ar iar undecided : ℕ)
      → EndAt candidates s answers brave ar iar undecided ↔ EndIsRight input before answers brave ar iar undecided

-- so it is after all right lines
abbrev pub RulesAreKept : Type 0
RulesAreKept = (input : Input) (before : List Line) → AreRight input before
    → RulesAtStanding input before (standing_of (length input.kb.facts) before)
