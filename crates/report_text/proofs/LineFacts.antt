-- Lines: their texts are UTF-8 with no line feed and read back as them, and well-formed lines with equal texts are equal.
use Rattle.std.proofs.Common.{◌≡◌, ℕ, ◌≤◌, Bool, true, false, List, Some, None, option_and_then, codes, refl, sym, ap, ◌∙◌, IsUtf8}
use Rattle.std.specs.Prelude.{if◌then◌else◌}
use Rattle.std.specs.Str.{bytes_eq}
use Rattle.std.proofs.lemmas.Option.{option_and_then_some}
use Rattle.std.proofs.lemmas.Slice.Eq.{bytes_eq-Decides}
use Rattle.serde_json.specs.Data.{Data, depth}
use Rattle.serde_json.specs.Read.{read, max_depth}
use Rattle.report_text.specs.declared.line.Line.{Line}
use Rattle.report_text.specs.declared.line.Line.TheVariants as line
use Rattle.report_fields.specs.Fields.{word_at}
use Rattle.report_text.specs.HeadLine.{head_at}
use Rattle.report_text.specs.CqLine.{cq_at}
use Rattle.report_text.specs.ConflictLine.{conflict_at}
use Rattle.report_text.specs.AskLine.{ask_at}
use Rattle.report_text.specs.TryLine.{try_at}
use Rattle.report_text.specs.LearnLine.{learn_at}
use Rattle.report_text.specs.CoreLine.{core_at}
use Rattle.report_text.specs.DoneLine.{done_at}
use Rattle.report_text.specs.ForgetLine.{forget_at}
use Rattle.report_text.specs.AnswerLine.{answer_at}
use Rattle.report_text.specs.EndLine.{end_at}
use Rattle.report_text.specs.Lines.{IsWellFormed, data_of, text_of, line_of_kind, line_at, line_of}
use Rattle.report_text.proofs.NoLineFeed.{has_line_feed}
use Rattle.report_fields.proofs.Plain.{IsPlain, read-compact_text, IsUtf8-compact_text}
use Rattle.report_text.proofs.NoLineFeed.{none-compact_text}
use Rattle.report_text.proofs.HeadFacts.{IsPlain-head_data, depth-head_data, head_at-head_data, IsWellFormed-head_at}
use Rattle.report_text.proofs.CqFacts.{IsPlain-cq_data, depth-cq_data, cq_at-cq_data, IsWellFormed-cq_at}
use Rattle.report_text.proofs.ConflictFacts.{IsPlain-conflict_data, depth-conflict_data, conflict_at-conflict_data, IsWellFormed-conflict_at}
use Rattle.report_text.proofs.AskFacts.{IsPlain-ask_data, depth-ask_data, ask_at-ask_data, IsWellFormed-ask_at}
use Rattle.report_text.proofs.TryFacts.{IsPlain-try_data, depth-try_data, try_at-try_data, IsWellFormed-try_at}
use Rattle.report_text.proofs.LearnFacts.{IsPlain-learn_data, depth-learn_data, learn_at-learn_data, IsWellFormed-learn_at}
use Rattle.report_text.proofs.CoreFacts.{IsPlain-core_data, depth-core_data, core_at-core_data, IsWellFormed-core_at}
use Rattle.report_text.proofs.DoneFacts.{IsPlain-done_data, depth-done_data, done_at-done_data, IsWellFormed-done_at}
use Rattle.report_text.proofs.ForgetFacts.{IsPlain-forget_data, depth-forget_data, forget_at-forget_data, IsWellFormed-forget_at}
use Rattle.report_text.proofs.AnswerFacts.{IsPlain-answer_data, depth-answer_data, answer_at-answer_data, IsWellFormed-answer_at}
use Rattle.report_text.proofs.EndFacts.{IsPlain-end_data, depth-end_data, end_at-end_data, IsWellFormed-end_at}

-- BY KIND

-- a well-formed line's JSON is plain
IsPlain-data_of : (l : Line) → IsWellFormed l → IsPlain (data_of l)
IsPlain-data_of (line.Head axioms budget facts keep repairs version) h = IsPlain-head_data axioms budget facts keep repairs version h
IsPlain-data_of (line.Cq of query made_by) h = IsPlain-cq_data of query made_by h
IsPlain-data_of (line.Conflict facts rule place) h = IsPlain-conflict_data facts rule place h
IsPlain-data_of (line.Ask candidate tuple causes members) h = IsPlain-ask_data candidate tuple causes members h
IsPlain-data_of (line.Try question assume) h = IsPlain-try_data question assume h
IsPlain-data_of (line.Learn number clause) h = IsPlain-learn_data number clause h
IsPlain-data_of (line.Core number kept dropped) h = IsPlain-core_data number kept dropped h
IsPlain-data_of (line.Done how core) h = IsPlain-done_data how core h
IsPlain-data_of (line.Forget clauses) h = IsPlain-forget_data clauses h
IsPlain-data_of (line.Answer brave ar iar cores names tuple) h = IsPlain-answer_data brave ar iar cores names tuple h
IsPlain-data_of (line.End answers brave ar iar undecided) h = IsPlain-end_data answers brave ar iar undecided h

-- a line's JSON is shallow
depth-data_of : (l : Line) → depth (data_of l) ≤ max_depth
depth-data_of (line.Head axioms budget facts keep repairs version) = depth-head_data axioms budget facts keep repairs version
depth-data_of (line.Cq of query made_by) = depth-cq_data of query made_by
depth-data_of (line.Conflict facts rule place) = depth-conflict_data facts rule place
depth-data_of (line.Ask candidate tuple causes members) = depth-ask_data candidate tuple causes members
depth-data_of (line.Try question assume) = depth-try_data question assume
depth-data_of (line.Learn number clause) = depth-learn_data number clause
depth-data_of (line.Core number kept dropped) = depth-core_data number kept dropped
depth-data_of (line.Done how core) = depth-done_data how core
depth-data_of (line.Forget clauses) = depth-forget_data clauses
depth-data_of (line.Answer brave ar iar cores names tuple) = depth-answer_data brave ar iar cores names tuple
depth-data_of (line.End answers brave ar iar undecided) = depth-end_data answers brave ar iar undecided

-- a well-formed line's JSON gives back the line
line_at-data_of : (l : Line) → IsWellFormed l → line_at (data_of l) ≡ Some l
unfolding line_at
line_at-data_of (line.Head axioms budget facts keep repairs version) h = head_at-head_data axioms budget facts keep repairs version h
line_at-data_of (line.Cq of query made_by) h = cq_at-cq_data of query made_by h
line_at-data_of (line.Conflict facts rule place) h = conflict_at-conflict_data facts rule place h
line_at-data_of (line.Ask candidate tuple causes members) h = ask_at-ask_data candidate tuple causes members h
line_at-data_of (line.Try question assume) h = try_at-try_data question assume h
line_at-data_of (line.Learn number clause) h = learn_at-learn_data number clause h
line_at-data_of (line.Core number kept dropped) h = core_at-core_data number kept dropped h
line_at-data_of (line.Done how core) h = done_at-done_data how core h
line_at-data_of (line.Forget clauses) h = forget_at-forget_data clauses h
line_at-data_of (line.Answer brave ar iar cores names tuple) h = answer_at-answer_data brave ar iar cores names tuple h
line_at-data_of (line.End answers brave ar iar undecided) h = end_at-end_data answers brave ar iar undecided h

-- a line that is found by its kind is well formed
IsWellFormed-line_of_kind : (word : List ℕ) (d : Data) (found : Line) → line_of_kind word d ≡ Some found → IsWellFormed found
IsWellFormed-line_of_kind word d found e =
    by (bytes_eq word (codes "head")) (bytes_eq word (codes "cq")) (bytes_eq word (codes "conflict")) (bytes_eq word (codes "ask"))
    (bytes_eq word (codes "try")) (bytes_eq word (codes "learn")) (bytes_eq word (codes "core")) (bytes_eq word (codes "done"))
    (bytes_eq word (codes "forget")) (bytes_eq word (codes "answer")) (bytes_eq word (codes "end")) e
  where
    by : (head_is cq_is conflict_is ask_is try_is learn_is core_is done_is forget_is answer_is end_is : Bool)
        → (if head_is then head_at d else if cq_is then cq_at d else if conflict_is then conflict_at d else if ask_is then ask_at d else if try_is then try_at
        d else if learn_is then learn_at d else if core_is then core_at d else if done_is then done_at d else if forget_is then forget_at d else if
        answer_is then answer_at d else if end_is then end_at d else None) ≡ Some found
        → IsWellFormed found
    by true cq_is conflict_is ask_is try_is learn_is core_is done_is forget_is answer_is end_is e = IsWellFormed-head_at d found e
    by false true conflict_is ask_is try_is learn_is core_is done_is forget_is answer_is end_is e = IsWellFormed-cq_at d found e
    by false false true ask_is try_is learn_is core_is done_is forget_is answer_is end_is e = IsWellFormed-conflict_at d found e
    by false false false true try_is learn_is core_is done_is forget_is answer_is end_is e = IsWellFormed-ask_at d found e
    by false false false false true learn_is core_is done_is forget_is answer_is end_is e = IsWellFormed-try_at d found e
    by false false false false false true core_is done_is forget_is answer_is end_is e = IsWellFormed-learn_at d found e
    by false false false false false false true done_is forget_is answer_is end_is e = IsWellFormed-core_at d found e
    by false false false false false false false true forget_is answer_is end_is e = IsWellFormed-done_at d found e
    by false false false false false false false false true answer_is end_is e = IsWellFormed-forget_at d found e
    by false false false false false false false false false true end_is e = IsWellFormed-answer_at d found e
    by false false false false false false false false false false true e = IsWellFormed-end_at d found e
    by false false false false false false false false false false false e = cc e

-- ALL KINDS

-- what the reader finds is right
pub IsWellFormed-line_at : (d : Data) (found : Line) → line_at d ≡ Some found → IsWellFormed found
unfolding line_at
IsWellFormed-line_at d found e = option_and_then_some (λ word. line_of_kind word d) (word_at (codes "k") d) found e
    (λ word word_is e. IsWellFormed-line_of_kind word d found e)

-- a line's text reads as its JSON
pub read-text_of : (l : Line) → IsWellFormed l → read (text_of l) ≡ Some (data_of l)
unfolding text_of
read-text_of l h = read-compact_text (data_of l) (IsPlain-data_of l h) (depth-data_of l)

-- a line's text is UTF-8
pub IsUtf8-text_of : (l : Line) → IsWellFormed l → IsUtf8 (text_of l)
unfolding text_of
IsUtf8-text_of l h = IsUtf8-compact_text (data_of l) (IsPlain-data_of l h)

-- a line's text has no line feed
pub none-text_of : (l : Line) → IsWellFormed l → has_line_feed (text_of l) ≡ false
unfolding text_of
none-text_of l h = none-compact_text (data_of l) (IsPlain-data_of l h)

-- a line's text is read
pub not_refused : (l : Line) (bytes : List ℕ) → IsWellFormed l → bytes ≡ text_of l → (IsUtf8 bytes → read bytes ≡ None) → ⊥
not_refused l bytes right e none =
    let gone : read (text_of l) ≡ None = rw e at (none (rw e (IsUtf8-text_of l right))) in
    let both : None ≡ Some (data_of l) = sym gone ∙ read-text_of l right in
    cc both

-- what is read of a line's text has the line
pub line_at-read : (l : Line) (bytes : List ℕ) (d : Data) → IsWellFormed l → bytes ≡ text_of l → read bytes ≡ Some d → line_at d ≡ Some l
line_at-read l bytes d right e h =
    let both : Some d ≡ Some (data_of l) = sym h ∙ ap read e ∙ read-text_of l right in
    let same : d ≡ data_of l = cc both in
    rw same (line_at-data_of l right)

-- bytes equal themselves
pub bytes_eq-same : (bytes : List ℕ) → bytes_eq bytes bytes ≡ true
bytes_eq-same bytes = (bytes_eq-Decides bytes bytes).1 refl

-- a text gives back its line
pub line_of-text_of : (l : Line) → IsWellFormed l → line_of (text_of l) ≡ Some l
unfolding line_of
line_of-text_of l right =
    rw (read-text_of l right, line_at-data_of l right, bytes_eq-same (text_of l)) refl

-- the line of some bytes is right, and they are its text
pub line_of-sound : (bytes : List ℕ) (l : Line) → line_of bytes ≡ Some l → IsWellFormed l × (bytes ≡ text_of l)
unfolding line_of
line_of-sound bytes l e =
    option_and_then_some (λ l. if bytes_eq (text_of l) bytes then Some l else None) (option_and_then line_at (read bytes)) l e (λ found found_is e.
    option_and_then_some line_at (read bytes) found found_is (λ d d_is at. by found (IsWellFormed-line_at d found at) (bytes_eq (text_of found) bytes) refl e))
  where
    by : (found : Line) → IsWellFormed found → (b : Bool) → bytes_eq (text_of found) bytes ≡ b → (if b then Some found else None) ≡ Some l → IsWellFormed l
        × (bytes ≡ text_of l)
    by found right true h e =
        let same : found ≡ l = cc e in
        rw (← same) (right, sym ((bytes_eq-Decides (text_of found) bytes).0 h))
    by found right false h e = cc e

-- well-formed lines with equal texts are equal
pub equal_texts : (one other : Line) → IsWellFormed one → IsWellFormed other → text_of one ≡ text_of other → one ≡ other
equal_texts one other right also e =
    let both : Some one ≡ Some other = sym (line_of-text_of one right) ∙ ap line_of e ∙ line_of-text_of other also in
    cc both
