-- Right lines are true, and so is an accepted report.
use Rattle.std.proofs.Common.{◌≡◌, ℕ, ◌⊎◌, inl, inr, List, [], ◌∷◌, ◌++◌, refl, sym, subst, ap, ◌∙◌}
use Rattle.std.specs.Prelude.{reverse}
use Rattle.std.proofs.lemmas.List.{append-nil, append_assoc}
use Rattle.cq_terms.specs.declared.axioms.Axiom.{Axiom}
use Rattle.cq_terms.specs.Knowledge.{Knowledge}
use Rattle.cq_terms.specs.Query.{Query}
use Rattle.cq_meaning.specs.Repairs.{IsAcyclic}
use Rattle.cq_meaning.specs.Candidates.{AreCandidates}
use Rattle.cq_meaning.proofs.Ascending.{All-of}
use Rattle.report_text.specs.declared.line.Line.{Line}
use Rattle.report_text.specs.declared.line.Line.TheVariants as line
use Rattle.report_text.specs.declared.line.Question.TheVariants as question
use Rattle.report_text.specs.declared.line.Origin.{Origin}
use Rattle.report_rules.specs.declared.place.Place.{Place}
use Rattle.report_rules.specs.declared.place.Place.TheVariants.{AtEnd, InAnswer, InTry, AfterCore, AfterForget}
use Rattle.report_rules.specs.Inputs.{Input, OneQuery, report_on, query_at}
use Rattle.report_rules.specs.Order.{place_of, is_answering, MayHaveBlock, AreBlocksOver, IsBetweenAnswers}
use Rattle.report_rules.specs.Told.{mode_of, query_of, count_ends, answered}
use Rattle.report_rules.specs.Tries.{asked}
use Rattle.report_rules.specs.Accepted.{Right, AreRight, Accepts}
use Rattle.report_laws.specs.Laws.{tuple_of, tuples_of, mode_told, IsTrueLine, AreTrue, AreTrueAnswers}
use Rattle.report_laws.proofs.ListLemmas.{reverse-cons, Contains-reverse}
use Rattle.report_laws.proofs.PlaceLemmas.{starts_empty}
use Rattle.report_laws.proofs.AnswerLemmas.{AnswersAt, answers_at}
use Rattle.report_laws.proofs.HeldLemmas.{opens_rightly}
use Rattle.report_laws.proofs.VerdictLemmas.{verdict_true}

-- ---- the tuples that are told

-- the tuples of the answer lines, oldest first
told : List Line → List (List ℕ)
told [] = []
told (line ∷ before) = told before ++ tuple_of line

told-push : (xs : List Line) (x : Line) → told (xs ++ x ∷ []) ≡ tuple_of x ++ told xs
unfolding told
told-push [] x = sym (append-nil (tuple_of x))
told-push (y ∷ xs) x = ap (λ zs. zs ++ tuple_of y) (told-push xs x) ∙ append_assoc (tuple_of x) (told xs) (tuple_of y)

told-reverse : (xs : List Line) → told (reverse xs) ≡ tuples_of xs
unfolding told
told-reverse [] = refl
told-reverse (x ∷ xs) = ap told (reverse-cons x xs) ∙ (told-push (reverse xs) x ∙ ap (λ zs. tuple_of x ++ zs) (told-reverse xs))

-- ---- in a report on one query no `end` stands before another line

not_over : (axioms : List Axiom) (p : Place) → AreBlocksOver OneQuery axioms p → p ≡ AtEnd → ⊥
not_over axioms AtEnd h e = h
not_over axioms _ h e = absurd (cc)

not_between : (axioms : List Axiom) (p : Place) → IsBetweenAnswers OneQuery axioms p → p ≡ AtEnd → ⊥
not_between axioms AtEnd h e = h
not_between axioms _ h e = absurd (cc)

not_block : (axioms : List Axiom) (p : Place) (o : Origin) → MayHaveBlock OneQuery axioms p o → p ≡ AtEnd → ⊥
not_block axioms AtEnd o h e = h
not_block axioms _ o h e = absurd (cc)

not_ask : (axioms : List Axiom) (p : Place) → (p ≡ AfterForget) ⊎ IsBetweenAnswers OneQuery axioms p → p ≡ AtEnd → ⊥
not_ask axioms p (inl f) e = absurd (cc)
not_ask axioms p (inr h) e = not_between axioms p h e

-- nor is an answer open there
pub in_answer : (p : Place) → p ≡ InAnswer → p ≡ AtEnd → ⊥
in_answer p e f = absurd (cc)

not_done : (p : Place) → (p ≡ InTry) ⊎ (p ≡ AfterCore) → p ≡ AtEnd → ⊥
not_done p (inl f) e = absurd (cc)
not_done p (inr f) e = absurd (cc)

module _ (kb : Knowledge) (names : List (List ℕ)) (q : Query) where
  before_end : (line : Line) (b : List Line) → Right (report_on kb names q) b line → place_of b ≡ AtEnd → ⊥
  before_end (line.Head axioms budget facts keep repairs version) b r e = absurd (let s = r.order in cc)
  before_end (line.Cq o query step) b r e = not_block _ (place_of b) o r.order e
  before_end (line.Conflict facts rule member) b r e = not_over _ (place_of b) r.order e
  before_end (line.Ask candidate tuple causes members) b r e = not_ask _ (place_of b) r.order e
  before_end (line.Try question assume) b r e = absurd (let s = r.order in cc)
  before_end (line.Learn number clause) b r e = absurd (let s = r.order in cc)
  before_end (line.Core number kept dropped) b r e = absurd (let s = r.order in cc)
  before_end (line.Done how core) b r e = not_done (place_of b) r.order e
  before_end (line.Forget clauses) b r e = not_between _ (place_of b) r.order e
  before_end (line.Answer brave ar iar cores names tuple) b r e = absurd (let s = r.order in cc)
  before_end (line.End answers brave ar iar undecided) b r e = not_between _ (place_of b) r.order e

  no_end : (before : List Line) → AreRight (report_on kb names q) before → (place_of before ≡ AtEnd → ⊥) → count_ends before ≡ 0
  no_end [] r n = refl
  no_end (line.Head axioms budget facts keep repairs version ∷ b) (r, rs) n = no_end b rs (before_end _ b r)
  no_end (line.Cq o query step ∷ b) (r, rs) n = no_end b rs (before_end _ b r)
  no_end (line.Conflict facts rule member ∷ b) (r, rs) n = no_end b rs (before_end _ b r)
  no_end (line.Ask candidate tuple causes members ∷ b) (r, rs) n = no_end b rs (before_end _ b r)
  no_end (line.Try question assume ∷ b) (r, rs) n = no_end b rs (before_end _ b r)
  no_end (line.Learn number clause ∷ b) (r, rs) n = no_end b rs (before_end _ b r)
  no_end (line.Core number kept dropped ∷ b) (r, rs) n = no_end b rs (before_end _ b r)
  no_end (line.Done how core ∷ b) (r, rs) n = no_end b rs (before_end _ b r)
  no_end (line.Forget clauses ∷ b) (r, rs) n = no_end b rs (before_end _ b r)
  no_end (line.Answer brave ar iar cores names tuple ∷ b) (r, rs) n = no_end b rs (before_end _ b r)
  no_end (line.End answers brave ar iar undecided ∷ b) r n = absurd (n refl)

  -- before the end the query is that of the report
  pub one_query : (b : List Line) → AreRight (report_on kb names q) b → (place_of b ≡ AtEnd → ⊥) → query_of (report_on kb names q) b ≡ q
  one_query b r n = ap (query_at (q ∷ [])) (no_end b r n)

  -- and the tuples since the last `end` are all
  answered_told : (before : List Line) → AreRight (report_on kb names q) before → (place_of before ≡ AtEnd → ⊥) → answered before ≡ told before
  unfolding told
  answered_told [] r n = refl
  answered_told (line.Head axioms budget facts keep repairs version ∷ b) (r, rs) n = answered_told b rs (before_end _ b r) ∙ sym (append-nil (told b))
  answered_told (line.Cq o query step ∷ b) (r, rs) n = answered_told b rs (before_end _ b r) ∙ sym (append-nil (told b))
  answered_told (line.Conflict facts rule member ∷ b) (r, rs) n = answered_told b rs (before_end _ b r) ∙ sym (append-nil (told b))
  answered_told (line.Ask candidate tuple causes members ∷ b) (r, rs) n = answered_told b rs (before_end _ b r) ∙ sym (append-nil (told b))
  answered_told (line.Try question assume ∷ b) (r, rs) n = answered_told b rs (before_end _ b r) ∙ sym (append-nil (told b))
  answered_told (line.Learn number clause ∷ b) (r, rs) n = answered_told b rs (before_end _ b r) ∙ sym (append-nil (told b))
  answered_told (line.Core number kept dropped ∷ b) (r, rs) n = answered_told b rs (before_end _ b r) ∙ sym (append-nil (told b))
  answered_told (line.Done how core ∷ b) (r, rs) n = answered_told b rs (before_end _ b r) ∙ sym (append-nil (told b))
  answered_told (line.Forget clauses ∷ b) (r, rs) n = answered_told b rs (before_end _ b r) ∙ sym (append-nil (told b))
  answered_told (line.Answer brave ar iar cores names tuple ∷ b) (r, rs) n = ap (λ zs. zs ++ tuple ∷ []) (answered_told b rs (before_end _ b r))
  answered_told (line.End answers brave ar iar undecided ∷ b) r n = absurd (n refl)

-- ---- right lines say nothing false

pub right_lines_true : (input : Input) (before : List Line) → AreRight input before → IsAcyclic input.kb (mode_of before) → AreTrue input before
right_lines_true input [] r a = tt
right_lines_true input (line.Head axioms budget facts keep repairs version ∷ b) (r, rs) a = (tt, subst (AreTrue input) (sym (starts_empty b r.order)) tt)
right_lines_true input (line.Answer brave ar iar cores names tuple ∷ b) (r, rs) a =
    let h = opens_rightly input b rs (ap is_answering r.order) in
    let same : (asked b).tuple ≡ tuple = sym r.own.same_tuple in (
      subst (λ t. IsTrueLine input.kb (mode_of b) (query_of input b) (line.Answer brave ar iar cores names t)) same (
        verdict_true input b h.0 h.1 a cores question.Brave brave r.own.brave_is,
        verdict_true input b h.0 h.1 a cores question.Ar ar r.own.ar_is,
        verdict_true input b h.0 h.1 a cores question.Iar iar r.own.iar_is,
      ),
      right_lines_true input b rs a,
    )
right_lines_true input (line.End answers brave ar iar undecided ∷ b) (r, rs) a = (r.own.none_left, right_lines_true input b rs a)
right_lines_true input (line.Cq o query step ∷ b) (r, rs) a = (tt, right_lines_true input b rs a)
right_lines_true input (line.Conflict facts rule member ∷ b) (r, rs) a = (tt, right_lines_true input b rs a)
right_lines_true input (line.Ask candidate tuple causes members ∷ b) (r, rs) a = (tt, right_lines_true input b rs a)
right_lines_true input (line.Try question assume ∷ b) (r, rs) a = (tt, right_lines_true input b rs a)
right_lines_true input (line.Learn number clause ∷ b) (r, rs) a = (tt, right_lines_true input b rs a)
right_lines_true input (line.Core number kept dropped ∷ b) (r, rs) a = (tt, right_lines_true input b rs a)
right_lines_true input (line.Done how core ∷ b) (r, rs) a = (tt, right_lines_true input b rs a)
right_lines_true input (line.Forget clauses ∷ b) (r, rs) a = (tt, right_lines_true input b rs a)

-- ---- each answer line of a report is true

-- the answer is true of the query
line_true : (kb : Knowledge) (names : List (List ℕ)) (q : Query) (before : List Line) → IsAcyclic kb (mode_of before) → (l : Line)
    → AnswersAt (report_on kb names q) before l → IsTrueLine kb (mode_of before) q l
line_true kb names q before a (line.Answer brave ar iar cores texts tuple) w =
    let h = opens_rightly (report_on kb names q) w.earlier w.right (ap is_answering w.at) in
    let acyclic : IsAcyclic kb (mode_of w.earlier) = subst (IsAcyclic kb) (sym w.same_mode) a in
    let same : query_of (report_on kb names q) w.earlier ≡ q = one_query kb names q w.earlier w.right (λ e. in_answer (place_of w.earlier) w.at e) in
    subst (λ m. IsTrueLine kb m q (line.Answer brave ar iar cores texts tuple)) w.same_mode
    (subst (λ p. IsTrueLine kb (mode_of w.earlier) p (line.Answer brave ar iar cores texts tuple)) same
    (subst (λ t. IsTrueLine kb (mode_of w.earlier) (query_of (report_on kb names q) w.earlier) (line.Answer brave ar iar cores texts t))
    (sym w.own.same_tuple) (
      verdict_true (report_on kb names q) w.earlier h.0 h.1 acyclic cores question.Brave brave w.own.brave_is,
      verdict_true (report_on kb names q) w.earlier h.0 h.1 acyclic cores question.Ar ar w.own.ar_is,
      verdict_true (report_on kb names q) w.earlier h.0 h.1 acyclic cores question.Iar iar w.own.iar_is,
    )))
line_true kb names q before a (line.Head axioms budget facts keep repairs version) w = tt
line_true kb names q before a (line.Cq o query step) w = tt
line_true kb names q before a (line.Conflict facts rule member) w = tt
line_true kb names q before a (line.Ask candidate tuple causes members) w = tt
line_true kb names q before a (line.Try question assume) w = tt
line_true kb names q before a (line.Learn number clause) w = tt
line_true kb names q before a (line.Core number kept dropped) w = tt
line_true kb names q before a (line.Done how core) w = tt
line_true kb names q before a (line.Forget clauses) w = tt
line_true kb names q before a (line.End answers brave ar iar undecided) w = tt

-- at the end the tuples are the candidates
all_told : (kb : Knowledge) (names : List (List ℕ)) (q : Query) (before : List Line) → AreRight (report_on kb names q) before → place_of before ≡ AtEnd
    → AreCandidates kb q (told before)
unfolding told
all_told kb names q (line.End answers brave ar iar undecided ∷ b) (r, rs) e =
    let n = before_end kb names q (line.End answers brave ar iar undecided) b r in
    subst (AreCandidates kb q) (answered_told kb names q b rs n ∙ sym (append-nil (told b)))
    (subst (λ p. AreCandidates kb p (answered b)) (one_query kb names q b rs n) r.own.none_left)
all_told kb names q (line.Head _ _ _ _ _ _ ∷ b) r e = absurd (cc)
all_told kb names q (line.Cq _ _ _ ∷ b) r e = absurd (cc)
all_told kb names q (line.Conflict _ _ _ ∷ b) r e = absurd (cc)
all_told kb names q (line.Ask _ _ _ _ ∷ b) r e = absurd (cc)
all_told kb names q (line.Try _ _ ∷ b) r e = absurd (cc)
all_told kb names q (line.Learn _ _ ∷ b) r e = absurd (cc)
all_told kb names q (line.Core _ _ _ ∷ b) r e = absurd (cc)
all_told kb names q (line.Done _ _ ∷ b) r e = absurd (cc)
all_told kb names q (line.Forget _ ∷ b) r e = absurd (cc)
all_told kb names q (line.Answer _ _ _ _ _ _ ∷ b) r e = absurd (cc)
all_told kb names q [] r e = absurd (cc)

-- an accepted report tells the candidates in order, and nothing false of them
pub accepted_is_true : (kb : Knowledge) (names : List (List ℕ)) (q : Query) (lines : List Line) → Accepts kb names q lines → IsAcyclic kb (mode_told lines)
    → AreTrueAnswers kb q lines
accepted_is_true kb names q lines w a = (
  subst (AreCandidates kb q) (told-reverse lines) (all_told kb names q (reverse lines) w.right w.ended),
  All-of (IsTrueLine kb (mode_told lines) q) lines (λ l m. line_true kb names q (reverse lines) a l
      (answers_at (report_on kb names q) (reverse lines) w.right l (Contains-reverse lines l m))),
)
