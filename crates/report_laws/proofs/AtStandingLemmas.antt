-- The rules of lines over what is kept of the lines before.
use Rattle.std.proofs.Common.{◌≡◌, ℕ, zero, suc, ◌<◌, ◌≤◌, ◌⊎◌, ◌↔◌, inl, inr, List, [], ◌∷◌, ◌++◌, length, map, All, Contains, Bool, true, false, true≢false}
use Rattle.std.proofs.Common.{not, ◌&&◌, Option, Some, None, slice_get, refl, sym, subst, ap, ◌∙◌, arith}
use Rattle.std.specs.List.{AllZip, list_any, list_all}
use Rattle.std.specs.Str.{bytes_eq}
use Rattle.std.specs.Prelude.{IsTrue, nat_lt}
use Rattle.std.proofs.lemmas.Bool.{ltb-true, ltb-false}
use Rattle.std.proofs.lemmas.List.{length-append, length-map, append-nil, append_assoc}
use Rattle.std.proofs.lemmas.List.Elements.{All-contains}
use Rattle.std.proofs.lemmas.Option.{slice_get_within}
use Rattle.cq_terms.specs.declared.facts.Repairs.{Repairs}
use Rattle.cq_terms.specs.Knowledge.{Knowledge}
use Rattle.cq_terms.specs.Query.{Query}
use Rattle.cq_meaning.specs.Conflicts.{Conflict}
use Rattle.cq_meaning.specs.Candidates.{AreCandidates, AreCauses}
use Rattle.cq_meaning.proofs.Ascending.{All-of}
use Rattle.cq_meaning.proofs.Members.{Contains-head, Contains-slice_get}
use Rattle.clause_meaning.proofs.Members.{Contains-map, Contains-map_cases}
use Rattle.cq_steps.specs.declared.moves.Move.{Move}
use Rattle.priority_graph.specs.Priority.{Priority}
use Rattle.priority_graph.specs.Split.{has}
use Rattle.priority_graph.specs.Inputs.{IsPriorityOf}
use Rattle.repair_clauses.specs.BaseClauses.{present, absent}
use Rattle.repair_clauses.proofs.LiteralLemmas.{variable_of-present, variable_of-absent}
use Rattle.report_text.specs.declared.line.Line.{Line}
use Rattle.report_text.specs.declared.line.Line.TheVariants as line
use Rattle.report_text.specs.declared.line.Origin.{Origin}
use Rattle.report_text.specs.declared.line.Origin.TheVariants as origin
use Rattle.report_text.specs.declared.line.Question.{Question}
use Rattle.report_text.specs.declared.line.Question.TheVariants as question
use Rattle.report_text.specs.declared.line.Verdict.{Verdict}
use Rattle.report_text.specs.declared.line.How.{How}
use Rattle.report_text.specs.declared.line.How.TheVariants as how
use Rattle.report_rules.specs.declared.place.Place.TheVariants.{InAnswer, InTry, AfterCore}
use Rattle.report_rules.specs.Inputs.{Input, selector_of}
use Rattle.report_rules.specs.ConflictLists.{AreConflictLists}
use Rattle.report_rules.specs.Order.{place_of, is_answering, is_open}
use Rattle.report_rules.specs.Told.{mode_of, query_of, block_of, conflicts_of, answered, count_answers, HasQueryLeft}
use Rattle.report_rules.specs.Blocks.{MayJoin, IsClosedBlock, LeavesClosed}
use Rattle.report_rules.specs.Tries.{Asked, asked, question_of, assumed, Tried}
use Rattle.report_rules.specs.Live.{same_question, learned_for, Learned, learned}
use Rattle.report_laws.specs.LiveLists.{AreLive}
use Rattle.report_rules.specs.TryRules.{turn_of, MayAssume, HasDirectCore, IsEasy, ShowsAsked, TryIsRight, LearnIsRight, CoreIsRight, SpentIsRight, DoneIsRight}
use Rattle.report_rules.specs.Rules.{MemberMatches, ConflictIsRight, LeavesNoneOut, AskIsRight, ForgetIsRight, AnswerIsRight, EndIsRight}
use Rattle.report_rules.specs.Evidence.{Meets}
use Rattle.report_rules.specs.Accepted.{AreRight}
use Rattle.report_laws.specs.Standing.{Standing, standing_of, Core, cores_of, EndedTry, ended_of, named_of, blocks_of, members_at, learned_in, count_conflicts}
use Rattle.report_laws.specs.Settling.{Evidence, evidence_of, keeps, drops, is_settled, TestsTell}
use Rattle.report_laws.specs.AtStanding.{HasQueryLeftAt, LeavesClosedAt, JoinsAt, Candidate, AreCandidatesOf, ConflictAt, LeavesNoneOutAt, AskAt, evidence_at}
use Rattle.report_laws.specs.AtStanding.{may_assume, is_in_turn, is_such_try, is_right_try, LearnAt, CoreAt, facts_of, IsEasyAt, shows, SpentAt, DoneAt}
use Rattle.report_laws.specs.AtStanding.{is_learned, ForgetAt, AnswerAt, EndAt, RulesAreKept}
use Rattle.report_laws.proofs.BaseClauseLemmas.{means}
use Rattle.report_laws.proofs.EasyLemmas.{try_assumes}
use Rattle.report_laws.proofs.LiteralLemmas.{absent_same}
use Rattle.report_laws.proofs.ListLemmas.{only_one}
use Rattle.report_laws.proofs.LiveListLemmas.{live_tells, live_listed}
use Rattle.report_laws.proofs.PlaceLemmas.{try_open}
use Rattle.report_laws.proofs.SettlingLemmas.{tests_tell, tells_question}
use Rattle.report_laws.proofs.StandingLemmas.{blocks_listed, named_listed, cores_listed, cores_counted, tried_ended, conflicts_counted, answers_counted}
use Rattle.report_laws.proofs.TestLemmas.{Tells, tells_like, tells_both, tells_not, tells_any, tells_all, tells_has, tells_same}
use Rattle.report_laws.proofs.UniqueLists.{conflict_lists_one, causes_one, candidates_one}

-- ---- a list that is told from its beginning

-- what stands behind a beginning
get_behind : {X : Type 0} (xs : List X) (x : X) (rest : List X) → slice_get (xs ++ x ∷ rest) (length xs) ≡ Some x
get_behind [] x rest = refl
get_behind (y ∷ xs) x rest = get_behind xs x rest

-- what stands there is the first of the rest
first_behind : {X : Type 0} (xs rest : List X) (x : X) → slice_get (xs ++ rest) (length xs) ≡ Some x → (more : List X) × (rest ≡ x ∷ more)
first_behind [] [] x e = absurd (cc e)
first_behind [] (y ∷ rest) x e = let same : y ≡ x = cc e in (rest, ap (λ z. z ∷ rest) same)
first_behind (y ∷ xs) rest x e = first_behind xs rest x e

none_behind : {X : Type 0} (xs rest : List X) → length xs ≡ length (xs ++ rest) → rest ≡ []
none_behind xs [] e = refl
none_behind xs (x ∷ rest) e = let size = length-append xs (x ∷ rest) in absurd (omega arith)

-- ---- conflicts

told_first : (input : Input) (b : List Line) → AreRight input b → (all : List (List ℕ)) → AreConflictLists input.kb all → (rest : List (List ℕ))
    × (conflicts_of b ++ rest ≡ all)
told_first input [] r all are = (all, refl)
told_first input (line.Conflict facts rule member ∷ b) (r, rs) all are =
    let (rest, lists) = r.own.next in
    (rest, append_assoc (conflicts_of b) (facts ∷ []) rest ∙ conflict_lists_one input.kb (conflicts_of b ++ facts ∷ rest) all lists are)
told_first input (line.Head axioms budget facts keep repairs version ∷ b) (r, rs) all are = told_first input b rs all are
told_first input (line.Cq o query step ∷ b) (r, rs) all are = told_first input b rs all are
told_first input (line.Ask candidate tuple causes members ∷ b) (r, rs) all are = told_first input b rs all are
told_first input (line.Try question assume ∷ b) (r, rs) all are = told_first input b rs all are
told_first input (line.Learn number clause ∷ b) (r, rs) all are = told_first input b rs all are
told_first input (line.Core number kept dropped ∷ b) (r, rs) all are = told_first input b rs all are
told_first input (line.Done how core ∷ b) (r, rs) all are = told_first input b rs all are
told_first input (line.Forget clauses ∷ b) (r, rs) all are = told_first input b rs all are
told_first input (line.Answer brave ar iar cores names tuple ∷ b) (r, rs) all are = told_first input b rs all are
told_first input (line.End answers brave ar iar undecided ∷ b) (r, rs) all are = told_first input b rs all are

module _ (input : Input) (b : List Line) (r : AreRight input b) where
  abbrev st : Standing
  st = standing_of (length input.kb.facts) b

  all_told : (all : List (List ℕ)) → AreConflictLists input.kb all → AreConflictLists input.kb (conflicts_of b) ↔ (count_conflicts b ≡ length all)
  all_told all are = (
    (λ w. conflicts_counted b ∙ ap length (conflict_lists_one input.kb (conflicts_of b) all w are)),
    (λ e. subst (AreConflictLists input.kb) (whole (told_first input b r all are) e) are),
  )
    where
      whole : (rest : List (List ℕ)) × (conflicts_of b ++ rest ≡ all) → count_conflicts b ≡ length all → all ≡ conflicts_of b
      whole (rest, w) e =
          let none : rest ≡ [] = none_behind (conflicts_of b) rest (sym (conflicts_counted b) ∙ (e ∙ ap length (sym w))) in
          sym w ∙ (ap (λ (xs : List (List ℕ)). conflicts_of b ++ xs) none ∙ append-nil (conflicts_of b))

  next_conflict : (all : List (List ℕ)) → AreConflictLists input.kb all → (facts : List ℕ) → (slice_get all (count_conflicts b) ≡ Some facts)
      ↔ ((rest : List (List ℕ)) × AreConflictLists input.kb (conflicts_of b ++ facts ∷ rest))
  next_conflict all are facts = (
    (λ e. to (told_first input b r all are) e),
    (λ (rest, w). subst (λ (n : ℕ). slice_get all n ≡ Some facts) (sym (conflicts_counted b))
        (subst (λ (xs : List (List ℕ)). slice_get xs (length (conflicts_of b)) ≡ Some facts)
        (conflict_lists_one input.kb (conflicts_of b ++ facts ∷ rest) all w are) (get_behind (conflicts_of b) facts rest))),
  )
    where
      to : (rest : List (List ℕ)) × (conflicts_of b ++ rest ≡ all) → slice_get all (count_conflicts b) ≡ Some facts → (rest : List (List ℕ))
          × AreConflictLists input.kb (conflicts_of b ++ facts ∷ rest)
      to (rest, w) e =
          let (more, same) = first_behind (conflicts_of b) rest facts (subst (λ (xs : List (List ℕ)). slice_get xs (length (conflicts_of b)) ≡ Some facts)
          (sym w) (subst (λ (n : ℕ). slice_get all n ≡ Some facts) (conflicts_counted b) e)) in
          (more, subst (AreConflictLists input.kb) (sym w ∙ ap (λ (xs : List (List ℕ)). conflicts_of b ++ xs) same) are)

  found_at : (o : Origin) (member : ℕ) (tuple numbers : List ℕ) → MemberMatches input.kb.facts (members_at (blocks_of b) o) member tuple numbers
      ↔ MemberMatches input.kb.facts (block_of o b) member tuple numbers
  found_at o member tuple numbers = (
    subst (λ (ms : List Query). MemberMatches input.kb.facts ms member tuple numbers) (blocks_listed b o),
    subst (λ (ms : List Query). MemberMatches input.kb.facts ms member tuple numbers) (sym (blocks_listed b o)),
  )

  conflict_at : (all : List (List ℕ)) → AreConflictLists input.kb all → (facts : List ℕ) (rule member : ℕ)
      → ConflictAt input.kb all (standing_of (length input.kb.facts) b) facts rule member ↔ ConflictIsRight input b facts rule member
  conflict_at all are facts rule member = (
    (λ w. record { next = (next_conflict all are facts).0 w.next; found = (found_at (origin.Negative rule) member [] facts).0 w.found }),
    (λ w. record { next = (next_conflict all are facts).1 w.next; found = (found_at (origin.Negative rule) member [] facts).1 w.found }),
  )

  none_out : (all : List (List ℕ)) → AreConflictLists input.kb all → (l : Line) → LeavesNoneOutAt input.form all (standing_of (length input.kb.facts) b) l
      ↔ LeavesNoneOut input b l
  none_out all are (line.Cq origin.Query query step) = ((λ h e. (all_told all are).1 (h e)), (λ h e. (all_told all are).0 (h e)))
  none_out all are (line.Cq (origin.Negative i) query step) = ((λ h. h), (λ h. h))
  none_out all are (line.Forget clauses) = ((all_told all are).1, (all_told all are).0)
  none_out all are (line.Ask candidate tuple causes members) = ((all_told all are).1, (all_told all are).0)
  none_out all are (line.End answers brave ar iar undecided) = ((all_told all are).1, (all_told all are).0)
  none_out all are (line.Head axioms budget facts keep repairs version) = ((λ h. h), (λ h. h))
  none_out all are (line.Conflict facts rule member) = ((λ h. h), (λ h. h))
  none_out all are (line.Try question assume) = ((λ h. h), (λ h. h))
  none_out all are (line.Learn number clause) = ((λ h. h), (λ h. h))
  none_out all are (line.Core number kept dropped) = ((λ h. h), (λ h. h))
  none_out all are (line.Done how core) = ((λ h. h), (λ h. h))
  none_out all are (line.Answer brave ar iar cores names tuple) = ((λ h. h), (λ h. h))

  -- ---- order, blocks

  query_left : (l : Line) → HasQueryLeftAt input (standing_of (length input.kb.facts) b) l ↔ HasQueryLeft input b l
  query_left (line.Cq origin.Query query step) = ((λ h. h), (λ h. h))
  query_left (line.Cq (origin.Negative i) query step) = ((λ h. h), (λ h. h))
  query_left (line.Head axioms budget facts keep repairs version) = ((λ h. h), (λ h. h))
  query_left (line.Conflict facts rule member) = ((λ h. h), (λ h. h))
  query_left (line.Ask candidate tuple causes members) = ((λ h. h), (λ h. h))
  query_left (line.Try question assume) = ((λ h. h), (λ h. h))
  query_left (line.Learn number clause) = ((λ h. h), (λ h. h))
  query_left (line.Core number kept dropped) = ((λ h. h), (λ h. h))
  query_left (line.Done how core) = ((λ h. h), (λ h. h))
  query_left (line.Forget clauses) = ((λ h. h), (λ h. h))
  query_left (line.Answer brave ar iar cores names tuple) = ((λ h. h), (λ h. h))
  query_left (line.End answers brave ar iar undecided) = ((λ h. h), (λ h. h))

  closed_at : (l : Line) → LeavesClosedAt input (standing_of (length input.kb.facts) b) l ↔ LeavesClosed input b l
  closed_at l = (
    (λ h o e. elim (h o e) [ inl w ↦ inl w | inr w ↦ inr (subst (IsClosedBlock input.kb.axioms) (blocks_listed b o) w) ]),
    (λ h o e. elim (h o e) [ inl w ↦ inl w | inr w ↦ inr (subst (IsClosedBlock input.kb.axioms) (sym (blocks_listed b o)) w) ]),
  )

  joins_same : (o : Origin) (members : List Query) (q : Query) (step : Option (ℕ × Move))
      → JoinsAt input (standing_of (length input.kb.facts) b) o members q step ↔ MayJoin input b o members q step
  joins_same origin.Query [] q None = ((λ h. h), (λ h. h))
  joins_same (origin.Negative i) [] q None = ((λ h. h), (λ h. h))
  joins_same o [] q (Some step) = ((λ h. h), (λ h. h))
  joins_same o (first ∷ others) q None = ((λ h. h), (λ h. h))
  joins_same o (first ∷ others) q (Some step) = ((λ h. h), (λ h. h))

  joins : (o : Origin) (q : Query) (step : Option (ℕ × Move)) → JoinsAt input (standing_of (length input.kb.facts) b) o (members_at (blocks_of b) o) q step
      ↔ MayJoin input b o (block_of o b) q step
  joins o q step = (
    (λ h. subst (λ (ms : List Query). MayJoin input b o ms q step) (blocks_listed b o) ((joins_same o (members_at (blocks_of b) o) q step).0 h)),
    (λ h. (joins_same o (members_at (blocks_of b) o) q step).1 (subst (λ (ms : List Query). MayJoin input b o ms q step) (sym (blocks_listed b o)) h)),
  )

-- ---- candidates

-- the open answer's candidate is the next
asked_next : (input : Input) (b : List Line) → AreRight input b → is_open b ≡ true → (rest : List (List ℕ))
    × AreCandidates input.kb (query_of input b) (answered b ++ (asked b).tuple ∷ rest)
asked_next input (line.Ask candidate tuple causes members ∷ b) (r, rs) t = r.own.next
asked_next input (line.Try question assume ∷ b) (r, rs) t = asked_next input b rs (ap is_answering r.order)
asked_next input (line.Learn number clause ∷ b) (r, rs) t = asked_next input b rs (ap is_answering r.order)
asked_next input (line.Core number kept dropped ∷ b) (r, rs) t = asked_next input b rs (ap is_answering r.order)
asked_next input (line.Done how core ∷ b) (r, rs) t = asked_next input b rs (try_open (place_of b) r.order)
asked_next input [] r t = absurd (true≢false (sym t))
asked_next input (line.Head axioms budget facts keep repairs version ∷ b) r t = absurd (true≢false (sym t))
asked_next input (line.Cq o query step ∷ b) r t = absurd (true≢false (sym t))
asked_next input (line.Conflict facts rule member ∷ b) r t = absurd (true≢false (sym t))
asked_next input (line.Forget clauses ∷ b) r t = absurd (true≢false (sym t))
asked_next input (line.Answer brave ar iar cores names tuple ∷ b) r t = absurd (true≢false (sym t))
asked_next input (line.End answers brave ar iar undecided ∷ b) r t = absurd (true≢false (sym t))

answered_first : (input : Input) (b : List Line) → AreRight input b → (tuples : List (List ℕ)) → AreCandidates input.kb (query_of input b) tuples
    → (rest : List (List ℕ)) × (answered b ++ rest ≡ tuples)
answered_first input [] r tuples are = (tuples, refl)
answered_first input (line.End answers brave ar iar undecided ∷ b) r tuples are = (tuples, refl)
answered_first input (line.Answer brave ar iar cores names tuple ∷ b) (r, rs) tuples are =
    let (rest, next) = asked_next input b rs (ap is_answering r.order) in (
      rest,
      append_assoc (answered b) (tuple ∷ []) rest ∙ (ap (λ (t : List ℕ). answered b ++ t ∷ rest) r.own.same_tuple
          ∙ candidates_one input.kb (query_of input b) (answered b ++ (asked b).tuple ∷ rest) tuples next are),
    )
answered_first input (line.Head axioms budget facts keep repairs version ∷ b) (r, rs) tuples are = answered_first input b rs tuples are
answered_first input (line.Cq o query step ∷ b) (r, rs) tuples are = answered_first input b rs tuples are
answered_first input (line.Conflict facts rule member ∷ b) (r, rs) tuples are = answered_first input b rs tuples are
answered_first input (line.Ask candidate tuple causes members ∷ b) (r, rs) tuples are = answered_first input b rs tuples are
answered_first input (line.Try question assume ∷ b) (r, rs) tuples are = answered_first input b rs tuples are
answered_first input (line.Learn number clause ∷ b) (r, rs) tuples are = answered_first input b rs tuples are
answered_first input (line.Core number kept dropped ∷ b) (r, rs) tuples are = answered_first input b rs tuples are
answered_first input (line.Done how core ∷ b) (r, rs) tuples are = answered_first input b rs tuples are
answered_first input (line.Forget clauses ∷ b) (r, rs) tuples are = answered_first input b rs tuples are

abbrev candidate_so : List ℕ → List (List ℕ) → Candidate
candidate_so tuple causes = record { tuple = tuple; causes = causes }

-- the tuple at a place of the candidates
tuple_at : (candidates : List Candidate) (k : ℕ) (tuple : List ℕ) → slice_get (map (λ (c : Candidate). c.tuple) candidates) k ≡ Some tuple
    → (causes : List (List ℕ)) × (slice_get candidates k ≡ Some (record { tuple = tuple; causes = causes }))
tuple_at [] k tuple e = absurd (cc e)
tuple_at (c ∷ candidates) zero tuple e = let same : c.tuple ≡ tuple = cc e in (c.causes, ap (λ (t : List ℕ). Some (candidate_so t c.causes)) same)
tuple_at (c ∷ candidates) (suc k) tuple e = tuple_at candidates k tuple e

at_tuple : (candidates : List Candidate) (k : ℕ) (c : Candidate) → slice_get candidates k ≡ Some c
    → slice_get (map (λ (c : Candidate). c.tuple) candidates) k ≡ Some c.tuple
at_tuple [] k c e = absurd (cc e)
at_tuple (d ∷ candidates) zero c e = let same : d ≡ c = cc e in ap (λ (x : Candidate). Some x.tuple) same
at_tuple (d ∷ candidates) (suc k) c e = at_tuple candidates k c e

module _ (input : Input) (b : List Line) (r : AreRight input b) where
  -- ---- ask and end

  module _ (candidates : List Candidate) (are : AreCandidatesOf input.kb (query_of input b) candidates) where
    abbrev wanted : List (List ℕ)
    wanted = map (λ (c : Candidate). c.tuple) candidates

    next_tuple : (tuple : List ℕ) → (slice_get (map (λ (c : Candidate). c.tuple) candidates) (length (answered b)) ≡ Some tuple)
        ↔ ((rest : List (List ℕ)) × AreCandidates input.kb (query_of input b) (answered b ++ tuple ∷ rest))
    next_tuple tuple = (
      (λ e. to (answered_first input b r wanted are.tuples) e),
      (λ (rest, w). subst (λ (xs : List (List ℕ)). slice_get xs (length (answered b)) ≡ Some tuple)
          (candidates_one input.kb (query_of input b) (answered b ++ tuple ∷ rest) wanted w are.tuples) (get_behind (answered b) tuple rest)),
    )
      where
        to : (rest : List (List ℕ)) × (answered b ++ rest ≡ map (λ (c : Candidate). c.tuple) candidates)
            → slice_get (map (λ (c : Candidate). c.tuple) candidates) (length (answered b)) ≡ Some tuple → (rest : List (List ℕ))
            × AreCandidates input.kb (query_of input b) (answered b ++ tuple ∷ rest)
        to (rest, w) e =
            let (more, same) = first_behind (answered b) rest tuple (subst (λ (xs : List (List ℕ)). slice_get xs (length (answered b)) ≡ Some tuple) (sym w)
            e) in
            (more, subst (AreCandidates input.kb (query_of input b)) (sym w ∙ ap (λ (xs : List (List ℕ)). answered b ++ xs) same) are.tuples)

    all_answered : AreCandidates input.kb (query_of input b) (answered b) ↔ (count_answers (λ v w u. true) b ≡ length candidates)
    all_answered = (
      (λ w. answers_counted b ∙ (ap length (candidates_one input.kb (query_of input b) (answered b) wanted w are.tuples)
          ∙ length-map candidates (λ (c : Candidate). c.tuple))),
      (λ e. subst (AreCandidates input.kb (query_of input b)) (whole (answered_first input b r wanted are.tuples) e) are.tuples),
    )
      where
        whole : (rest : List (List ℕ)) × (answered b ++ rest ≡ map (λ (c : Candidate). c.tuple) candidates)
            → count_answers (λ v w u. true) b ≡ length candidates → map (λ (c : Candidate). c.tuple) candidates ≡ answered b
        whole (rest, w) e =
            let none : rest ≡ [] = none_behind (answered b) rest (sym (answers_counted b)
            ∙ (e ∙ (sym (length-map candidates (λ (c : Candidate). c.tuple)) ∙ ap length (sym w)))) in
            sym w ∙ (ap (λ (xs : List (List ℕ)). answered b ++ xs) none ∙ append-nil (answered b))

    own_causes : (c : Candidate) → Contains candidates c → AreCauses input.kb (query_of input b) c.tuple c.causes
    own_causes c m = All-contains (λ (c : Candidate). AreCauses input.kb (query_of input b) c.tuple c.causes) candidates c are.causes m

    ask_at : (candidate : ℕ) (tuple : List ℕ) (causes : List (List ℕ)) (members : List ℕ)
        → AskAt input.kb candidates (standing_of (length input.kb.facts) b) candidate tuple causes members ↔ AskIsRight input b candidate tuple causes members
    ask_at candidate tuple causes members = (to, from)
      where
        to : AskAt input.kb candidates (standing_of (length input.kb.facts) b) candidate tuple causes members
            → AskIsRight input b candidate tuple causes members
        to w = record {
          number = w.number ∙ answers_counted b;
          next = (next_tuple tuple).0 (subst (λ (n : ℕ). slice_get (map (λ (c : Candidate). c.tuple) candidates) n ≡ Some tuple) (answers_counted b)
              (at_tuple candidates (count_answers (λ v w u. true) b) (candidate_so tuple causes) w.next));
          causes_are = own_causes (candidate_so tuple causes) (Contains-slice_get candidates (count_answers (λ v w u. true) b) (candidate_so tuple causes)
              w.next);
          found = subst (λ (ms : List Query). AllZip (λ cause place. MemberMatches input.kb.facts ms place tuple cause) causes members)
              (blocks_listed b origin.Query) w.found;
        }

        from : AskIsRight input b candidate tuple causes members → AskAt input.kb candidates (standing_of (length input.kb.facts) b) candidate tuple causes
            members
        from w = record {
          number = w.number ∙ sym (answers_counted b);
          next = at (tuple_at candidates (length (answered b)) tuple ((next_tuple tuple).1 w.next));
          found = subst (λ (ms : List Query). AllZip (λ cause place. MemberMatches input.kb.facts ms place tuple cause) causes members)
              (sym (blocks_listed b origin.Query)) w.found;
        }
          where
            at : (mine : List (List ℕ)) × (slice_get candidates (length (answered b)) ≡ Some (record { tuple = tuple; causes = mine }))
                → slice_get candidates (count_answers (λ v w u. true) b) ≡ Some (record { tuple = tuple; causes = causes })
            at (mine, e) =
                let same : mine ≡ causes = causes_one input.kb (query_of input b) tuple mine causes
                (own_causes (candidate_so tuple mine) (Contains-slice_get candidates (length (answered b)) (candidate_so tuple mine) e)) w.causes_are in
                ap (slice_get candidates) (answers_counted b) ∙ (e ∙ ap (λ (cs : List (List ℕ)). Some (candidate_so tuple cs)) same)

    end_at : (answers brave ar iar undecided : ℕ) → EndAt candidates (standing_of (length input.kb.facts) b) answers brave ar iar undecided
        ↔ EndIsRight input b answers brave ar iar undecided
    end_at answers brave ar iar undecided = (
      (λ w. record {
        none_left = all_answered.1 w.none_left;
        answers_count = w.answers_count;
        brave_count = w.brave_count;
        ar_count = w.ar_count;
        iar_count =
            w.iar_count;
        undecided_count = w.undecided_count;
      }),
      (λ w. record {
        none_left = all_answered.0 w.none_left;
        answers_count = w.answers_count;
        brave_count = w.brave_count;
        ar_count = w.ar_count;
        iar_count =
            w.iar_count;
        undecided_count = w.undecided_count;
      }),
    )

-- ---- assumptions and what a try asks

facts_present : (cause : List ℕ) → facts_of (map present cause) ≡ cause
facts_present [] = refl
facts_present (i ∷ cause) = ap (λ (n : ℕ). n ∷ facts_of (map present cause)) (variable_of-present i) ∙ ap (λ (ns : List ℕ). i ∷ ns) (facts_present cause)

facts_absent : (i : ℕ) → facts_of (absent i ∷ []) ≡ i ∷ []
facts_absent i = ap (λ (n : ℕ). n ∷ []) (variable_of-absent i)

present_one : (c d : List ℕ) → map present c ≡ map present d → c ≡ d
present_one c d e = sym (facts_present c) ∙ (ap facts_of e ∙ facts_present d)

tells_assume : (kb : Knowledge) (e : Evidence) (a : Asked) → e.causes ≡ a.causes → e.selector ≡ selector_of kb a.candidate → (q : Question) (assume : List ℕ)
    → Tells (may_assume e q assume) (MayAssume kb a q assume)
tells_assume kb e a same sel question.Brave assume = tells_like (may_assume e question.Brave assume)
    (tells_any (λ (cause : List ℕ). bytes_eq assume (map present cause)) (λ (cause : List ℕ). assume ≡ map present cause)
    (λ cause. tells_same assume (map present cause)) e.causes)
    (λ (cause, m, w). (cause, subst (λ (cs : List (List ℕ)). Contains cs cause) same m, w))
    (λ (cause, m, w). (cause, subst (λ (cs : List (List ℕ)). Contains cs cause) (sym same) m, w))
tells_assume kb e a same sel question.Iar assume = tells_like (may_assume e question.Iar assume)
    (tells_any (λ (cause : List ℕ). list_any (λ i. bytes_eq assume (absent i ∷ [])) cause)
    (λ (cause : List ℕ). (i : ℕ) × Contains cause i × (assume ≡ absent i ∷ []))
    (λ cause. tells_any (λ i. bytes_eq assume (absent i ∷ [])) (λ i. assume ≡ absent i ∷ []) (λ i. tells_same assume (absent i ∷ [])) cause) e.causes)
    (λ (cause, m, (i, k, w)). (cause, i, subst (λ (cs : List (List ℕ)). Contains cs cause) same m, k, w))
    (λ (cause, i, m, k, w). (cause, subst (λ (cs : List (List ℕ)). Contains cs cause) (sym same) m, (i, k, w)))
tells_assume kb e a same sel question.Ar assume = tells_like (may_assume e question.Ar assume) (tells_same assume (present e.selector ∷ []))
    (λ w. w ∙ ap (λ (n : ℕ). present n ∷ []) sel) (λ w. w ∙ ap (λ (n : ℕ). present n ∷ []) (sym sel))

-- what a core shows of a try that may be
tells_shows : (kb : Knowledge) (e : Evidence) (a : Asked) → e.causes ≡ a.causes → (q : Question) (assume : List ℕ) → MayAssume kb a q assume → (core : Core)
    → Tells (shows e q (facts_of assume) core) (ShowsAsked a q assume core.kept core.dropped)
tells_shows kb e a same question.Brave assume (cause, m, w) core =
    tells_like (keeps core (facts_of assume)) (tells_all (has core.kept) (Contains core.kept) (tells_has core.kept) (facts_of assume))
    (λ h. (cause, w, λ i k. h i (subst (λ (ns : List ℕ). Contains ns i) (sym facts) k)))
    (λ (d, v, h) i k. h i (subst (λ (ns : List ℕ). Contains ns i) (facts ∙ present_one cause d (sym w ∙ v)) k))
  where
    facts : facts_of assume ≡ cause
    facts = ap facts_of w ∙ facts_present cause
tells_shows kb e a same question.Iar assume (cause, i, m, n, w) core =
    tells_like (list_all (has core.dropped) (facts_of assume)) (tells_all (has core.dropped) (Contains core.dropped) (tells_has core.dropped) (facts_of assume))
    (λ h. (i, w, h i (subst (λ (ns : List ℕ). Contains ns i) (sym facts) (Contains-head i []))))
    (λ (j, v, h) k l. subst (Contains core.dropped) (absent_same j i (sym v ∙ w) ∙ only_one i k (subst (λ (ns : List ℕ). Contains ns k) facts l)) h)
  where
    facts : facts_of assume ≡ i ∷ []
    facts = ap facts_of w ∙ facts_absent i
tells_shows kb e a same question.Ar assume w core = tells_like (list_all (drops core) e.causes)
    (tells_all (drops core) (λ (cause : List ℕ). Meets cause core.dropped)
    (λ cause. tells_any (has core.dropped) (Contains core.dropped) (tells_has core.dropped) cause) e.causes)
    (λ h cause m. h cause (subst (λ (cs : List (List ℕ)). Contains cs cause) (sym same) m))
    (λ h cause m. h cause (subst (λ (cs : List (List ℕ)). Contains cs cause) same m))

-- whether a try that may be is easy
easy_at : (kb : Knowledge) (mode : Repairs) (a : Asked) (q : Question) (assume : List ℕ) → MayAssume kb a q assume → IsEasyAt kb mode q (facts_of assume)
    ↔ IsEasy kb mode q assume
easy_at kb mode a question.Brave assume (cause, m, w) = (
  (λ h. (cause, w, subst (HasDirectCore kb mode) (ap facts_of w ∙ facts_present cause) h)),
  (λ (d, v, h). subst (HasDirectCore kb mode) (sym (ap facts_of v ∙ facts_present d)) h),
)
easy_at kb mode a question.Iar assume (cause, i, m, n, w) = (
  (λ (k, j, l, c, h). (
    i,
    j,
    w,
    subst (λ (x : ℕ). Conflict kb x j)
        (sym (only_one i k (subst (λ (ns : List ℕ). Contains ns k) (ap facts_of w ∙ facts_absent i) l))) c,
    h,
  )),
  (λ (k, j, v, c, h). (k, j, subst (λ (ns : List ℕ). Contains ns k) (sym (ap facts_of v ∙ facts_absent k)) (Contains-head k []), c, h)),
)
easy_at kb mode a question.Ar assume w = ((λ h. h), (λ h. h))

abbrev learned_so : ℕ → List ℕ → Learned
learned_so n c = record { number = n; clause = c }

-- ---- tries

-- the turn of the one isn't behind that of the other
tells_turn : (q : Question) (t : EndedTry) → Tells (is_in_turn q t) (turn_of t.question ≤ turn_of q)
tells_turn q t = go (nat_lt (turn_of q) (turn_of t.question)) refl
  where
    go : (x : Bool) → nat_lt (turn_of q) (turn_of t.question) ≡ x → Tells (not x) (turn_of t.question ≤ turn_of q)
    go true e = let l = ltb-true (turn_of q) (turn_of t.question) e in ((λ f. absurd (true≢false (sym f))), (λ h. absurd (omega (arith, l, h))))
    go false e = let l = ltb-false (turn_of q) (turn_of t.question) e in ((λ f. l), (λ h. refl))

module _ (input : Input) (b : List Line) (r : AreRight input b) where
  tells_try : place_of b ≡ InAnswer → (q : Question) (assume : List ℕ)
      → Tells (is_right_try (evidence_at input.kb (standing_of (length input.kb.facts) b) []) q assume) (TryIsRight input b q assume)
  tells_try p q assume = tells_like (is_right_try (evidence_of input.kb b []) q assume)
      (tells_both (not (is_settled (evidence_of input.kb b []) q))
      (list_all (is_in_turn q) (ended_of b) && (not (list_any (is_such_try q assume) (ended_of b)) && may_assume (evidence_of input.kb b []) q assume))
      (tells_not (is_settled (evidence_of input.kb b []) q) ((tests_tell input b r []).settled q))
      (tells_both (list_all (is_in_turn q) (ended_of b)) (not (list_any (is_such_try q assume) (ended_of b)) && may_assume (evidence_of input.kb b []) q assume)
      (tells_all (is_in_turn q) (λ (t : EndedTry). turn_of t.question ≤ turn_of q) (tells_turn q) (ended_of b))
      (tells_both (not (list_any (is_such_try q assume) (ended_of b))) (may_assume (evidence_of input.kb b []) q assume)
      (tells_not (list_any (is_such_try q assume) (ended_of b)) (tells_any (is_such_try q assume) (λ (t : EndedTry). (t.question ≡ q) × (t.assume ≡ assume))
      (λ t. tells_both (same_question t.question q) (bytes_eq t.assume assume) (tells_question t.question q) (tells_same t.assume assume)) (ended_of b)))
      (tells_assume input.kb (evidence_of input.kb b []) (asked b) refl refl q assume))))
      (λ (n, (turn, (new, may))). record {
        unsettled = n;
        in_turn = λ q' a' w. let (h, m) = (tried_ended input b r p q' a').0 w in turn (record { question = q'; assume = a'; how = h }) m;
        new = λ w. let (h, m) = (tried_ended input b r p q assume).0 w in new (record { question = q; assume = assume; how = h }, m, (refl, refl));
        assumes = may;
      })
      (λ w. (
        w.unsettled,
        (
          (λ t m. w.in_turn t.question t.assume ((tried_ended input b r p t.question t.assume).1 (t.how, m))),
          (
            (λ (t, m, (e, f)). w.new (subst (λ (a : List ℕ). Tried q a b) f
                (subst (λ (x : Question). Tried x t.assume b) e ((tried_ended input b r p t.question t.assume).1 (t.how, m))))),
            w.assumes,
          ),
        ),
      ))

  -- ---- the other lines of a try

  learned_same : (q : Question) → learned_in (standing_of (length input.kb.facts) b) q ≡ learned_for q b
  learned_same question.Brave = refl
  learned_same question.Iar = refl
  learned_same question.Ar = refl

  learn_at : (live : List (List ℕ)) → AreLive input.kb b live → (number : ℕ) (clause : List ℕ)
      → LearnAt input.kb live (standing_of (length input.kb.facts) b) number clause ↔ LearnIsRight input b number clause
  learn_at live are number clause = (to, from)
    where
      to : LearnAt input.kb live (standing_of (length input.kb.facts) b) number clause → LearnIsRight input b number clause
      to w = record {
        counts = w.counts;
        in_budget = subst (λ (n : ℕ). n < (standing_of (length input.kb.facts) b).budget) (learned_same (question_of b)) w.in_budget;
        not_empty = w.not_empty;
        ascending = w.ascending;
        distinct = w.distinct;
        literals = w.literals;
        follows = ((live_tells input.kb b (Contains live) are).1 clause).0 w.follows;
        new = λ h. w.new (((live_tells input.kb b (Contains live) are).2 clause).1 h);
        needed = λ h. w.needed (((live_tells input.kb b (Contains live) are).0 (assumed b)).1 h);
      }

      from : LearnIsRight input b number clause → LearnAt input.kb live (standing_of (length input.kb.facts) b) number clause
      from w = record {
        counts = w.counts;
        in_budget = subst (λ (n : ℕ). n < (standing_of (length input.kb.facts) b).budget) (sym (learned_same (question_of b))) w.in_budget;
        not_empty = w.not_empty;
        ascending = w.ascending;
        distinct = w.distinct;
        literals = w.literals;
        follows = ((live_tells input.kb b (Contains live) are).1 clause).1 w.follows;
        new = λ h. w.new (((live_tells input.kb b (Contains live) are).2 clause).0 h);
        needed = λ h. w.needed (((live_tells input.kb b (Contains live) are).0 (assumed b)).0 h);
      }

  core_at : (p : Priority) → IsPriorityOf input.kb (mode_of b) p → (number : ℕ) (kept dropped : List ℕ)
      → CoreAt input.kb p (standing_of (length input.kb.facts) b) number kept dropped ↔ CoreIsRight input b number kept dropped
  core_at p of number kept dropped = (
    (λ w. record {
      counts = w.counts ∙ cores_counted b;
      kept_ascending = w.kept_ascending;
      kept_facts = w.kept_facts;
      dropped_ascending = w.dropped_ascending;
      dropped_facts = w.dropped_facts;
      core = (((means input.kb (mode_of b) p of).core kept dropped).0 w.core).1;
    }),
    (λ w. record {
      counts = w.counts ∙ sym (cores_counted b);
      kept_ascending = w.kept_ascending;
      kept_facts = w.kept_facts;
      dropped_ascending = w.dropped_ascending;
      dropped_facts = w.dropped_facts;
      core = ((means input.kb (mode_of b) p of).core kept dropped).1 (subst (λ (n : ℕ). All (λ j. j < n) dropped) (sym of.facts) w.dropped_facts, w.core);
    }),
  )

  easy_here : (place_of b ≡ InTry) ⊎ (place_of b ≡ AfterCore) → IsEasyAt input.kb (mode_of b) (question_of b) (facts_of (assumed b))
      ↔ IsEasy input.kb (mode_of b) (question_of b) (assumed b)
  easy_here p = easy_at input.kb (mode_of b) (asked b) (question_of b) (assumed b) (try_assumes input b r p)

  spent_at : (place_of b ≡ InTry) ⊎ (place_of b ≡ AfterCore) → (live : List (List ℕ)) → AreLive input.kb b live
      → SpentAt input.kb live (standing_of (length input.kb.facts) b) ↔ SpentIsRight input b
  spent_at p live are = (
    (λ w. record {
      not_refuted = λ h. w.not_refuted (((live_tells input.kb b (Contains live) are).0 (assumed b)).1 h);
      budget = sym (learned_same (question_of b)) ∙ w.budget;
      not_easy = λ h. w.not_easy ((easy_here p).1 h);
    }),
    (λ w. record {
      not_refuted = λ h. w.not_refuted (((live_tells input.kb b (Contains live) are).0 (assumed b)).0 h);
      budget = learned_same (question_of b) ∙ w.budget;
      not_easy = λ h. w.not_easy ((easy_here p).0 h);
    }),
  )

  model_at : (place_of b ≡ InTry) ⊎ (place_of b ≡ AfterCore) → (n : ℕ)
      → ((core : Core) × (slice_get (cores_of b) n ≡ Some core) × IsTrue
      (shows (evidence_at input.kb (standing_of (length input.kb.facts) b) []) (question_of b) (facts_of (assumed b)) core))
      ↔ ((kept : List ℕ) × (dropped : List ℕ) × Contains b (line.Core n kept dropped) × ShowsAsked (asked b) (question_of b) (assumed b) kept dropped)
  model_at p n = (
    (λ (core, e, t). (core.kept, core.dropped, (cores_listed input b r n core.kept core.dropped).1 e, (tells core).0 t)),
    (λ (kept, dropped, m, w). (
      record { kept = kept; dropped = dropped },
      (cores_listed input b r n kept dropped).0 m,
      (tells (record { kept = kept; dropped = dropped })).1 w,
    )),
  )
    where
      tells : (core : Core) → Tells (shows (evidence_of input.kb b []) (question_of b) (facts_of (assumed b)) core)
          (ShowsAsked (asked b) (question_of b) (assumed b) core.kept core.dropped)
      tells core = tells_shows input.kb (evidence_of input.kb b []) (asked b) refl (question_of b) (assumed b) (try_assumes input b r p) core

  done_at : (place_of b ≡ InTry) ⊎ (place_of b ≡ AfterCore) → (live : List (List ℕ)) → AreLive input.kb b live → (how : How) (core : Option ℕ)
      → DoneAt input.kb live (standing_of (length input.kb.facts) b) how core ↔ DoneIsRight input b how core
  done_at p live are how.Refuted None = (live_tells input.kb b (Contains live) are).0 (assumed b)
  done_at p live are how.Spent None = spent_at p live are
  done_at p live are how.Model (Some n) = model_at p n
  done_at p live are how.Refuted (Some n) = ((λ h. h), (λ h. h))
  done_at p live are how.Spent (Some n) = ((λ h. h), (λ h. h))
  done_at p live are how.Model None = ((λ h. h), (λ h. h))

  -- ---- between answers

  number_there : (cs : List Learned) (n : ℕ) → Tells (is_learned cs n) ((c : List ℕ) × Contains cs (record { number = n; clause = c }))
  number_there cs n = tells_like (is_learned cs n) (tells_has (map (λ (c : Learned). c.number) cs) n)
      (λ m. let (x, k, e) = Contains-map_cases (λ (c : Learned). c.number) cs n m in
      (x.clause, subst (Contains cs) (ap (λ (i : ℕ). learned_so i x.clause) e) k))
      (λ (c, m). Contains-map (λ (c : Learned). c.number) cs (record { number = n; clause = c }) m)

  forget_at : (numbers : List ℕ) → ForgetAt (standing_of (length input.kb.facts) b) numbers ↔ ForgetIsRight input b numbers
  forget_at numbers = (
    (λ w. record {
      many = w.many;
      ascending = w.ascending;
      live = All-of (λ n. (c : List ℕ) × Contains (learned (length input.kb.facts) b) (record { number = n; clause = c })) numbers
          (λ n m. (number_there (learned (length input.kb.facts) b) n).0
          (All-contains (λ n. IsTrue (is_learned (learned (length input.kb.facts) b) n)) numbers n w.live m));
      stay = w.stay;
    }),
    (λ w. record {
      many = w.many;
      ascending = w.ascending;
      live = All-of (λ n. IsTrue (is_learned (learned (length input.kb.facts) b) n)) numbers
          (λ n m. (number_there (learned (length input.kb.facts) b) n).1
          (All-contains (λ n. (c : List ℕ) × Contains (learned (length input.kb.facts) b) (record { number = n; clause = c })) numbers n w.live m));
      stay = w.stay;
    }),
  )

  core_there : (n : ℕ) → (n < length (cores_of b)) ↔ ((kept : List ℕ) × (dropped : List ℕ) × Contains b (line.Core n kept dropped))
  core_there n = (
    (λ l. let (c, e) = at (cores_of b) n l in (c.kept, c.dropped, (cores_listed input b r n c.kept c.dropped).1 e)),
    (λ (kept, dropped, m). slice_get_within (cores_of b) n (record { kept = kept; dropped = dropped }) ((cores_listed input b r n kept dropped).0 m)),
  )
    where
      at : (cs : List Core) (n : ℕ) → n < length cs → (c : Core) × (slice_get cs n ≡ Some c)
      at [] n l = absurd (omega arith)
      at (c ∷ cs) zero l = (c, refl)
      at (c ∷ cs) (suc n) l = at cs n (omega arith)

  answer_at : (brave ar iar : Verdict) (cores : List ℕ) (names : List (List ℕ)) (tuple : List ℕ)
      → AnswerAt input.kb input.names (standing_of (length input.kb.facts) b) brave ar iar cores names tuple
      ↔ AnswerIsRight input b brave ar iar cores names tuple
  answer_at brave ar iar cores names tuple = (to, from)
    where
      tells : TestsTell input.kb b cores
      tells = tests_tell input b r cores

      to : AnswerAt input.kb input.names (standing_of (length input.kb.facts) b) brave ar iar cores names tuple
          → AnswerIsRight input b brave ar iar cores names tuple
      to w = record {
        same_tuple = w.same_tuple;
        texts = w.told_texts;
        ascending = w.ascending;
        earlier = All-of (λ n. (kept : List ℕ) × (dropped : List ℕ) × Contains b (line.Core n kept dropped)) cores
            (λ n m. (core_there n).0 (All-contains (λ n. n < length (cores_of b)) cores n w.earlier m));
        complete = λ n k. (tells_has cores n).0 (All-contains (λ n. IsTrue (has cores n)) (named_of b) n w.complete ((named_listed b n).0 k));
        brave_is = (tells.verdict question.Brave brave).0 w.brave_is;
        ar_is = (tells.verdict question.Ar ar).0 w.ar_is;
        iar_is = (tells.verdict question.Iar iar).0 w.iar_is;
      }

      from : AnswerIsRight input b brave ar iar cores names tuple → AnswerAt input.kb input.names (standing_of (length input.kb.facts) b) brave ar iar cores
          names tuple
      from w = record {
        same_tuple = w.same_tuple;
        told_texts = w.texts;
        ascending = w.ascending;
        earlier = All-of (λ n. n < length (cores_of b)) cores (λ n m. (core_there n).1
            (All-contains (λ n. (kept : List ℕ) × (dropped : List ℕ) × Contains b (line.Core n kept dropped)) cores n w.earlier m));
        complete = All-of (λ n. IsTrue (has cores n)) (named_of b) (λ n m. (tells_has cores n).1 (w.complete n ((named_listed b n).1 m)));
        brave_is = (tells.verdict question.Brave brave).1 w.brave_is;
        ar_is = (tells.verdict question.Ar ar).1 w.ar_is;
        iar_is = (tells.verdict question.Iar iar).1 w.iar_is;
      }

pub rules_kept : RulesAreKept
rules_kept input b r = record {
  query_left = query_left input b r;
  closed = closed_at input b r;
  cq = joins input b r;
  conflict = conflict_at input b r;
  complete = λ all are. (all_told input b r all are, none_out input b r all are);
  ask = ask_at input b r;
  try' = tells_try input b r;
  learn = learn_at input b r;
  live = λ base are. live_listed input.kb b base are;
  core = core_at input b r;
  easy = easy_here input b r;
  done = done_at input b r;
  forget = forget_at input b r;
  answer = answer_at input b r;
  end = end_at input b r;
}
