-- What the lines of one answer add, and the end of a report.
use Rattle.std.proofs.Common.{◌≡◌, ℕ, suc, ◌+◌, ◌<◌, List, [], ◌∷◌, ◌++◌, length, take, drop, get_or, Contains, Bool, true}
use Rattle.std.proofs.Common.{Option, Some, slice_get, refl, sym, subst, ap, ◌∙◌, arith}
use Rattle.std.specs.Prelude.{if◌then◌else◌, option_map}
use Rattle.std.specs.List.{AllZip, AllByRecursion}
use Rattle.std.proofs.lemmas.List.{length-map, length-take-le, map-append, take_more, take-append-drop, drop_more}
use Rattle.std.proofs.lemmas.List.Elements.{All-contains, recursion_from_All}
use Rattle.std.proofs.lemmas.Option.{slice_get-map}
use Rattle.cq_terms.specs.Knowledge.{Knowledge}
use Rattle.cq_terms.specs.Query.{Query}
use Rattle.cq_meaning.specs.Candidates.{AreCandidates, AreCauses}
use Rattle.cq_steps.specs.declared.closure.Member.{Member}
use Rattle.cq_steps.specs.Closing.{queries_of}
use Rattle.cause_finder.specs.declared.candidate.Candidate.{Candidate}
use Rattle.cause_finder.specs.Causes.{AreAnswers, HasLeastMembers, IsLeastMember}
use Rattle.report_text.specs.declared.line.Line.{Line}
use Rattle.report_text.specs.declared.line.Line.TheVariants as line
use Rattle.report_text.specs.declared.line.Origin.{Origin}
use Rattle.report_text.specs.declared.line.Origin.TheVariants as origin
use Rattle.report_text.specs.declared.line.Question.TheVariants as question
use Rattle.report_text.specs.declared.line.Verdict.{Verdict}
use Rattle.report_rules.specs.Inputs.{Input, query_at, report_on}
use Rattle.report_rules.specs.Told.{block_of, count_ends, answered, count_answers, query_of}
use Rattle.report_rules.specs.Rules.{MemberMatches, AskIsRight}
use Rattle.report_rules.specs.Accepted.{Right}
use Rattle.report_laws.specs.Summaries.{yes_to, any_open}
use Rattle.classifier.specs.declared.summary.Summary.{Summary}
use Rattle.answer_desk.specs.declared.plan.Verdicts.{Verdicts}
use Rattle.answer_desk.specs.Answering.{IsOfTry, AreOneAnswer, WritesRight, has_undecided}
use Rattle.answer_desk.specs.Desks.{DeskState, Agrees}
use Rattle.classifier.specs.WholeReports.{with_verdicts, yes_count, IsSummaryIn, AnswersSoFar, tuples_of, end_line}
use Rattle.classifier.proofs.WholeCauseLemmas.{candidates_are, in_place}
use Rattle.classifier.proofs.WholeCountLemmas.{count_step, yes_more}
use Rattle.classifier.proofs.WholeWritingLemmas.{right_after}

-- ---- the lines of one answer

-- nothing of the query's block and of the answers has changed
record IsSameSoFar (old new : List Line) : Type 0 where
  block : (o : Origin) → block_of o new ≡ block_of o old
  ends : count_ends new ≡ count_ends old
  tuples : answered new ≡ answered old
  counts : (test : Verdict → Verdict → Verdict → Bool) → count_answers test new ≡ count_answers test old

tries_stay : (before : List Line) (number : ℕ) (tuple : List ℕ) (causes : List (List ℕ)) (members : List ℕ) (tries : List Line)
    → AllByRecursion IsOfTry tries → IsSameSoFar before ((tries ++ line.Ask number tuple causes members ∷ []) ++ before)
tries_stay before number tuple causes members [] h = record { block = λ o. refl; ends = refl; tuples = refl; counts = λ test. refl }
tries_stay before number tuple causes members (line.Try q assume ∷ tries) h =
    let w = tries_stay before number tuple causes members tries h.1 in
    record { block = w.block; ends = w.ends; tuples = w.tuples; counts = w.counts }
tries_stay before number tuple causes members (line.Learn n clause ∷ tries) h =
    let w = tries_stay before number tuple causes members tries h.1 in
    record { block = w.block; ends = w.ends; tuples = w.tuples; counts = w.counts }
tries_stay before number tuple causes members (line.Core n kept dropped ∷ tries) h =
    let w = tries_stay before number tuple causes members tries h.1 in
    record { block = w.block; ends = w.ends; tuples = w.tuples; counts = w.counts }
tries_stay before number tuple causes members (line.Done how core ∷ tries) h =
    let w = tries_stay before number tuple causes members tries h.1 in
    record { block = w.block; ends = w.ends; tuples = w.tuples; counts = w.counts }
tries_stay before number tuple causes members (l ∷ tries) h = absurd h.0

-- one more answer is told
record IsAnswerMore (tuple : List ℕ) (v : Verdicts) (old new : List Line) : Type 0 where
  block : (o : Origin) → block_of o new ≡ block_of o old
  ends : count_ends new ≡ count_ends old
  tuples : answered new ≡ answered old ++ tuple ∷ []
  counts : (test : Verdict → Verdict → Verdict → Bool)
      → count_answers test new ≡ (if test v.brave v.ar v.iar then suc (count_answers test old) else count_answers test old)

answer_more : (before more : List Line) (number : ℕ) (tuple : List ℕ) (causes : List (List ℕ)) (members : List ℕ) (names : List (List ℕ)) (v : Verdicts)
    → AreOneAnswer number tuple causes members names v more → IsAnswerMore tuple v before (more ++ before)
answer_more before more number tuple causes members names v one =
    let tries : List Line = one.tries ++ line.Ask number tuple causes members ∷ [] in
    let w = tries_stay before number tuple causes members one.tries (recursion_from_All IsOfTry one.tries one.of_tries) in
    subst (λ (ls : List Line). IsAnswerMore tuple v before (ls ++ before)) (sym one.lines) (record {
      block = w.block;
      ends = w.ends;
      tuples = ap (λ (ts : List (List ℕ)). ts ++ tuple ∷ []) w.tuples;
      counts = λ test. ap (λ (n : ℕ). if test v.brave v.ar v.iar then suc n else n) (w.counts test);
    })

-- and counted
summary_more : (tuple : List ℕ) (v : Verdicts) (old new : List Line) (s : Summary) → IsAnswerMore tuple v old new → IsSummaryIn old s
    → IsSummaryIn new (with_verdicts s v)
summary_more tuple v old new s m w = record {
  answers = let e = w.answers in (let f : s.answers + 1 ≡ suc (count_answers (λ b a i. true) old) = omega (arith, e) in f)
      ∙ sym (m.counts (λ b a i. true));
  yes = λ q. yes_more q s v ∙ (count_step (yes_to q v.brave v.ar v.iar) (yes_count q s) (count_answers (yes_to q) old) (w.yes q)
      ∙ sym (m.counts (yes_to q)));
  undecided = count_step (has_undecided v) s.undecided (count_answers any_open old) w.undecided ∙ sym (m.counts any_open);
}

-- so the lines go on
pub answers_more : (input : Input) (old new : DeskState) (members : List Member) (tuples : List (List ℕ)) (s : Summary) (before more : List Line)
    (told : Option (List Line)) (torn : Option Line) (number : ℕ) (c : Candidate) (names : List (List ℕ)) (v : Verdicts)
    → AnswersSoFar input old members tuples s before → WritesRight input before told torn more → Agrees new input (more ++ before)
    → AreOneAnswer number c.tuple c.causes c.members names v more
    → AnswersSoFar input new members (tuples ++ c.tuple ∷ []) (with_verdicts s v) (more ++ before)
answers_more input old new members tuples s before more told torn number c names v so_far writes agrees one =
    let m = answer_more before more number c.tuple c.causes c.members names v one in
    record {
      right = right_after input before more so_far.right writes.right;
      agrees = agrees;
      block = m.block origin.Query ∙ so_far.block;
      first = m.ends ∙ so_far.first;
      tuples_are = m.tuples ∙ ap (λ (ts : List (List ℕ)). ts ++ c.tuple ∷ []) so_far.tuples_are;
      counted = summary_more c.tuple v before (more ++ before) s m so_far.counted;
    }

-- ---- the next candidate

-- the query of a report on one query, before its end
one_query : (kb : Knowledge) (texts : List (List ℕ)) (q : Query) (before : List Line) → count_ends before ≡ 0 → query_of (report_on kb texts q) before ≡ q
one_query kb texts q before e = ap (λ (n : ℕ). query_at (q ∷ []) n) e

matches_told : (kb : Knowledge) (q : Query) (members : List Member) (tuple : List ℕ) (block : List Query) → block ≡ queries_of members
    → (causes : List (List ℕ)) (places : List ℕ) → AllZip (IsLeastMember kb.facts members tuple) causes places
    → AllZip (λ cause place. MemberMatches kb.facts block place tuple cause) causes places
matches_told kb q members tuple block same [] [] h = tt
matches_told kb q members tuple block same [] (n ∷ places) h = absurd h
matches_told kb q members tuple block same (cause ∷ causes) [] h = absurd h
matches_told kb q members tuple block same (cause ∷ causes) (n ∷ places) h =
    let (m, at, image) = h.0.matches in
    let listed : slice_get (queries_of members) n ≡ Some m.query = slice_get-map (λ (x : Member). x.query) members n
    ∙ ap (option_map (λ (x : Member). x.query)) at in (
      subst (λ (qs : List Query). MemberMatches kb.facts qs n tuple cause) (sym same) (m.query, listed, image),
      matches_told kb q members tuple block same causes places h.1,
    )

-- the candidate at the number is next
pub asks_rightly : (kb : Knowledge) (texts : List (List ℕ)) (q : Query) (desk : DeskState) (members : List Member) (candidates : List Candidate) (s : Summary)
    (before : List Line) (n : ℕ) (c : Candidate) → n < length candidates → get_or candidates n c ≡ c → AreAnswers kb.axioms kb.facts q members candidates
    → AnswersSoFar (report_on kb texts q) desk members (tuples_of (take n candidates)) s before
    → AskIsRight (report_on kb texts q) before n c.tuple c.causes c.members
asks_rightly kb texts q desk members candidates s before n c inside at answers so_far =
    let there : Contains candidates c = (n, inside, at) in
    let query = one_query kb texts q before so_far.first in
    let split : tuples_of candidates ≡ tuples_of (take n candidates) ++ c.tuple ∷ tuples_of (drop (n + 1) candidates) =
    ap tuples_of (sym (take-append-drop n candidates) ∙ ap (λ (xs : List Candidate). take n candidates ++ xs)
    (drop_more candidates n c inside ∙ ap (λ (x : Candidate). x ∷ drop (n + 1) candidates) at))
    ∙ map-append (λ (x : Candidate). x.tuple) (take n candidates) (c ∷ drop (n + 1) candidates) in
    let all : tuples_of candidates ≡ answered before ++ c.tuple ∷ tuples_of (drop (n + 1) candidates) =
    split ∙ ap (λ (ts : List (List ℕ)). ts ++ c.tuple ∷ tuples_of (drop (n + 1) candidates)) (sym so_far.tuples_are) in
    let place = in_place kb q members candidates answers c there in
    record {
      number = sym (ap (λ (ts : List (List ℕ)). length ts) so_far.tuples_are ∙ length-map (take n candidates) (λ (x : Candidate). x.tuple)
          ∙ length-take-le n candidates (omega (arith, inside)));
      next = (
        tuples_of (drop (n + 1) candidates),
        subst (λ (p : Query). AreCandidates kb p (answered before ++ c.tuple ∷ tuples_of (drop (n + 1) candidates)))
            (sym query) (subst (AreCandidates kb q) all (candidates_are kb q (tuples_of candidates) answers.candidates)),
      );
      causes_are = subst (λ (p : Query). AreCauses kb p c.tuple c.causes) (sym query) place.1;
      found = matches_told kb q members c.tuple (block_of origin.Query before) so_far.block c.causes c.members
          (All-contains (HasLeastMembers kb.facts members) candidates c answers.least there);
    }

pub tuples_taken : (candidates : List Candidate) (n : ℕ) (c : Candidate) → n < length candidates → get_or candidates n c ≡ c
    → tuples_of (take (n + 1) candidates) ≡ tuples_of (take n candidates) ++ c.tuple ∷ []
tuples_taken candidates n c inside at = ap tuples_of (take_more candidates n c inside ∙ ap (λ (x : Candidate). take n candidates ++ x ∷ []) at)
    ∙ map-append (λ (x : Candidate). x.tuple) (take n candidates) (c ∷ [])

-- ---- the end

-- behind all answers the `end` line is right
pub ends_rightly : (kb : Knowledge) (texts : List (List ℕ)) (q : Query) (desk : DeskState) (members : List Member) (candidates : List Candidate) (s : Summary)
    (before : List Line) → AreAnswers kb.axioms kb.facts q members candidates
    → AnswersSoFar (report_on kb texts q) desk members (tuples_of candidates) s before → Right (report_on kb texts q) before (end_line s)
ends_rightly kb texts q desk members candidates s before answers so_far = record {
  order = so_far.agrees.between;
  query_left = tt;
  closed = so_far.agrees.closed 0 [] [] [];
  complete = so_far.agrees.complete;
  own = record {
    none_left = subst (λ (p : Query). AreCandidates kb p (answered before)) (sym (one_query kb texts q before so_far.first))
        (subst (AreCandidates kb q) (sym so_far.tuples_are) (candidates_are kb q (tuples_of candidates) answers.candidates));
    answers_count = so_far.counted.answers;
    brave_count = so_far.counted.yes question.Brave;
    ar_count = so_far.counted.yes question.Ar;
    iar_count = so_far.counted.yes question.Iar;
    undecided_count = so_far.counted.undecided;
  };
}
