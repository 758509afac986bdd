-- In mode `all` no easy try is spent, and so brave and IAR are decided, and AR where there is one cause.
use Rattle.std.proofs.Common.{◌≡◌, ℕ, ◌<◌, ◌⊎◌, inl, inr, List, [], ◌∷◌, length, map, Contains, All, Some, None, refl, sym, subst, ap, ◌∙◌}
use Rattle.std.specs.Prelude.{reverse}
use Rattle.std.proofs.lemmas.List.Elements.{All-contains}
use Rattle.cq_terms.specs.declared.facts.Repairs.TheVariants as mode
use Rattle.cq_terms.specs.Knowledge.{Knowledge}
use Rattle.cq_terms.specs.Query.{Query}
use Rattle.cq_meaning.specs.Conflicts.{Only, AreConsistent, Conflict}
use Rattle.cq_meaning.specs.Candidates.{AreCauses}
use Rattle.cq_meaning.proofs.Members.{Contains-head, Contains-nil}
use Rattle.cq_meaning.proofs.Extension.{AreConsistent-mono, Conflict-sym}
use Rattle.cq_meaning.proofs.ByLists.{Conflict-within}
use Rattle.cq_meaning.proofs.Ascending.{All-of}
use Rattle.clause_meaning.specs.Literals.{opposite_of}
use Rattle.clause_meaning.specs.Refutation.{Refutes}
use Rattle.repair_clauses.specs.BaseClauses.{present, absent}
use Rattle.report_text.specs.declared.line.Line.{Line}
use Rattle.report_text.specs.declared.line.Line.TheVariants as line
use Rattle.report_text.specs.declared.line.Question.{Question}
use Rattle.report_text.specs.declared.line.Question.TheVariants as question
use Rattle.report_text.specs.declared.line.Verdict.{Verdict}
use Rattle.report_text.specs.declared.line.Verdict.TheVariants as verdict
use Rattle.report_text.specs.declared.line.How.TheVariants as how
use Rattle.report_rules.specs.declared.place.Place.TheVariants.{InTry, AfterCore}
use Rattle.report_rules.specs.Inputs.{Input, report_on}
use Rattle.report_rules.specs.Clauses.{IsBaseClause}
use Rattle.report_rules.specs.Order.{place_of, is_answering}
use Rattle.report_rules.specs.Told.{query_of, mode_of}
use Rattle.report_rules.specs.Tries.{asked, question_of, assumed, Ended}
use Rattle.report_rules.specs.Live.{Live}
use Rattle.report_rules.specs.Evidence.{IsSettled, IsSpent, IsVerdict, Meets}
use Rattle.report_rules.specs.TryRules.{MayAssume, IsEasy, SpentIsRight}
use Rattle.report_rules.specs.Accepted.{AreRight, Accepts}
use Rattle.report_laws.specs.OpenAnswers.{IsRightAnswer, AreConsistentLists}
use Rattle.report_laws.specs.Readings.{IsDecided}
use Rattle.report_laws.specs.Laws.{mode_told}
use Rattle.report_laws.specs.Deciding.{IsDecidedWithoutPriority}
use Rattle.report_laws.proofs.ListLemmas.{Contains-reverse, only_one}
use Rattle.report_laws.proofs.LiteralLemmas.{opposite_of-present, absent_same}
use Rattle.report_laws.proofs.CauseLemmas.{listed_cause, listed_within, same_causes}
use Rattle.report_laws.proofs.PlaceLemmas.{try_open}
use Rattle.report_laws.proofs.HeldLemmas.{opens_rightly}
use Rattle.report_laws.proofs.AnswerLemmas.{AnswersAt, answers_at}
use Rattle.report_laws.proofs.TruthLemmas.{one_query, in_answer}
use Rattle.report_laws.proofs.DirectCores.{direct_in_all, base_present}

-- ---- spent tries

-- the open try has assumptions that it may have
pub try_right : (input : Input) (b : List Line) → IsRightAnswer input b → (place_of b ≡ InTry) ⊎ (place_of b ≡ AfterCore)
    → MayAssume input.kb (asked b) (question_of b) (assumed b)
try_right input (line.Try question assume ∷ b) (r, rs) p = r.own.assumes
try_right input (line.Learn number clause ∷ b) (r, rs) p = try_right input b rs (inl r.order)
try_right input (line.Core number kept dropped ∷ b) (r, rs) p = try_right input b rs (inl r.order)
try_right input (line.Head _ _ _ _ _ _ ∷ b) r p = absurd (elim p [ inl e ↦ (cc) | inr e ↦ (cc) ])
try_right input (line.Cq _ _ _ ∷ b) r p = absurd (elim p [ inl e ↦ (cc) | inr e ↦ (cc) ])
try_right input (line.Conflict _ _ _ ∷ b) r p = absurd (elim p [ inl e ↦ (cc) | inr e ↦ (cc) ])
try_right input (line.Ask _ _ _ _ ∷ b) r p = absurd (elim p [ inl e ↦ (cc) | inr e ↦ (cc) ])
try_right input (line.Done _ _ ∷ b) r p = absurd (elim p [ inl e ↦ (cc) | inr e ↦ (cc) ])
try_right input (line.Forget _ ∷ b) r p = absurd (elim p [ inl e ↦ (cc) | inr e ↦ (cc) ])
try_right input (line.Answer _ _ _ _ _ _ ∷ b) r p = absurd (elim p [ inl e ↦ (cc) | inr e ↦ (cc) ])
try_right input (line.End _ _ _ _ _ ∷ b) r p = absurd (elim p [ inl e ↦ (cc) | inr e ↦ (cc) ])
try_right input [] r p = absurd (elim p [ inl e ↦ (cc) | inr e ↦ (cc) ])

-- after right lines too
pub try_assumes : (input : Input) (b : List Line) → AreRight input b → (place_of b ≡ InTry) ⊎ (place_of b ≡ AfterCore)
    → MayAssume input.kb (asked b) (question_of b) (assumed b)
try_assumes input b r p = try_right input b (opens_rightly input b r (try_open (place_of b) p)).0 p

-- the lines before the end of a spent try on the question under the assumptions
record SpentAfter (input : Input) (b : List Line) (q : Question) (assume : List ℕ) : Type 0 where
  early : List Line
  same_mode : mode_of early ≡ mode_of b
  same_asked : asked early ≡ asked b
  question_is : question_of early ≡ q
  assumed_is : assumed early ≡ assume
  spent : SpentIsRight input early
  may : MayAssume input.kb (asked early) (question_of early) (assumed early)

spent_after : (input : Input) (b : List Line) → IsRightAnswer input b → (q : Question) (assume : List ℕ) → Ended q assume how.Spent b
    → SpentAfter input b q assume
spent_after input (line.Ask candidate tuple causes members ∷ b) r q assume e = absurd e
spent_after input (line.Try question assume' ∷ b) (r, rs) q assume e = let w = spent_after input b rs q assume e in
    record {
      early = w.early;
      same_mode = w.same_mode;
      same_asked = w.same_asked;
      question_is = w.question_is;
      assumed_is = w.assumed_is;
      spent =
          w.spent;
      may = w.may;
    }
spent_after input (line.Learn number clause ∷ b) (r, rs) q assume e = let w = spent_after input b rs q assume e in
    record {
      early = w.early;
      same_mode = w.same_mode;
      same_asked = w.same_asked;
      question_is = w.question_is;
      assumed_is = w.assumed_is;
      spent =
          w.spent;
      may = w.may;
    }
spent_after input (line.Core number kept dropped ∷ b) (r, rs) q assume e = let w = spent_after input b rs q assume e in
    record {
      early = w.early;
      same_mode = w.same_mode;
      same_asked = w.same_asked;
      question_is = w.question_is;
      assumed_is = w.assumed_is;
      spent =
          w.spent;
      may = w.may;
    }
spent_after input (line.Done how.Spent None ∷ b) (r, rs) q assume (inl (eq, ea, eh)) =
    record { early = b; same_mode = refl; same_asked = refl; question_is = eq; assumed_is = ea; spent = r.own; may = try_right input b rs r.order }
spent_after input (line.Done how.Spent (Some n) ∷ b) (r, rs) q assume (inl (eq, ea, eh)) = absurd r.own
spent_after input (line.Done how.Model core ∷ b) (r, rs) q assume (inl (eq, ea, eh)) = absurd (cc)
spent_after input (line.Done how.Refuted core ∷ b) (r, rs) q assume (inl (eq, ea, eh)) = absurd (cc)
spent_after input (line.Done h core ∷ b) (r, rs) q assume (inr e) = let w = spent_after input b rs q assume e in
    record {
      early = w.early;
      same_mode = w.same_mode;
      same_asked = w.same_asked;
      question_is = w.question_is;
      assumed_is = w.assumed_is;
      spent =
          w.spent;
      may = w.may;
    }
spent_after input [] r q assume e = absurd e
spent_after input (line.Head _ _ _ _ _ _ ∷ b) (r, rs) q assume e = absurd r.own
spent_after input (line.Cq _ _ _ ∷ b) (r, rs) q assume e = absurd r.own
spent_after input (line.Conflict _ _ _ ∷ b) (r, rs) q assume e = absurd r.own
spent_after input (line.Forget _ ∷ b) (r, rs) q assume e = absurd r.own
spent_after input (line.Answer _ _ _ _ _ _ ∷ b) (r, rs) q assume e = absurd r.own
spent_after input (line.End _ _ _ _ _ ∷ b) (r, rs) q assume e = absurd r.own

-- what the lines before said of the try, said at its question, its assumptions and the mode
module _ (input : Input) (b : List Line) (q : Question) (assume : List ℕ) (w : SpentAfter input b q assume) where
  not_easy : mode_of b ≡ mode.All → ¬ IsEasy input.kb mode.All q assume
  not_easy all easy = w.spent.not_easy (subst (λ m. IsEasy input.kb m (question_of w.early) (assumed w.early)) (sym (w.same_mode ∙ all))
      (subst (λ x. IsEasy input.kb mode.All x (assumed w.early)) (sym w.question_is) (subst (IsEasy input.kb mode.All q) (sym w.assumed_is) easy)))

  may_assume : MayAssume input.kb (asked b) q assume
  may_assume = subst (λ a. MayAssume input.kb a q assume) w.same_asked
      (subst (λ x. MayAssume input.kb (asked w.early) x assume) w.question_is
      (subst (MayAssume input.kb (asked w.early) (question_of w.early)) w.assumed_is w.may))

  not_refuted : ¬ Refutes (Live input.kb w.early) (Contains assume)
  not_refuted h = w.spent.not_refuted (subst (λ a. Refutes (Live input.kb w.early) (Contains a)) (sym w.assumed_is) h)

-- clauses that have the present literal refute the absent one
absent_refuted : (S : List ℕ → Type 0) (i : ℕ) → S (present i ∷ []) → Refutes S (Contains (absent i ∷ []))
absent_refuted S i s = (
  absent i ∷ [],
  (inl (Contains-head (absent i) []), tt),
  inl (
    present i ∷ [],
    s,
    λ k m. subst (λ z. Contains (absent i ∷ []) (opposite_of z)) (only_one (present i) k m)
        (subst (Contains (absent i ∷ [])) (sym (opposite_of-present i)) (Contains-head (absent i) [])),
  ),
)

-- ---- easy tries in mode `all`

-- a brave try is easy where its cause is consistent
pub brave_easy : (kb : Knowledge) (cause : List ℕ) → ((i : ℕ) → Contains cause i → i < length kb.facts) → AreConsistent kb (Contains cause)
    → IsEasy kb mode.All question.Brave (map present cause)
brave_easy kb cause known consistent = (cause, refl, direct_in_all kb cause known consistent)

-- and an IAR try where its fact is in a conflict
pub iar_easy : (kb : Knowledge) (i j : ℕ) → Conflict kb i j → IsEasy kb mode.All question.Iar (absent i ∷ [])
iar_easy kb i j c = (
  i,
  j,
  refl,
  c,
  direct_in_all kb (j ∷ []) (λ l m. subst (λ z. z < length kb.facts) (only_one j l m) (Conflict-within kb j i (Conflict-sym kb i j c)))
      (AreConsistent-mono kb (Contains (j ∷ [])) (Only j) (λ l m. sym (only_one j l m)) c.right),
)

-- ---- the open answer in mode `all`

module _ (input : Input) (b : List Line) (right : IsRightAnswer input b) (in_all : mode_of b ≡ mode.All)
    (lists : AreConsistentLists input.kb (asked b).causes) where
  is_fact : (cause : List ℕ) → Contains (asked b).causes cause → (i : ℕ) → Contains cause i → i < length input.kb.facts
  is_fact cause m i k = All-contains (λ i. i < length input.kb.facts) cause i (lists cause m).0 k

  -- no brave try is spent
  no_brave_spent : (cause : List ℕ) → Contains (asked b).causes cause → Ended question.Brave (map present cause) how.Spent b → ⊥
  no_brave_spent cause m e =
      not_easy input b question.Brave (map present cause) (spent_after input b right question.Brave (map present cause) e) in_all
      (brave_easy input.kb cause (is_fact cause m) (lists cause m).1)

  -- no IAR try is spent
  no_iar_spent : (i : ℕ) → Ended question.Iar (absent i ∷ []) how.Spent b → ⊥
  no_iar_spent i e = go (may_assume input b question.Iar (absent i ∷ []) w)
    where
      w : SpentAfter input b question.Iar (absent i ∷ [])
      w = spent_after input b right question.Iar (absent i ∷ []) e

      -- where a fact conflicts with it, the try is easy
      rival : (j : ℕ) → Conflict input.kb i j → ⊥
      rival j c = not_easy input b question.Iar (absent i ∷ []) w in_all (iar_easy input.kb i j c)

      go : (cause : List ℕ) × (j : ℕ) × Contains (asked b).causes cause × Contains cause j × (absent i ∷ [] ≡ absent j ∷ []) → ⊥
      go (cause, j, m, k, same) =
          let in_cause : Contains cause i = subst (Contains cause) (sym (absent_same i j same)) k in
          let alone : AreConsistent input.kb (Only i) = AreConsistent-mono input.kb (Only i) (Contains cause) (λ l d. subst (Contains cause) (sym d) in_cause)
          (lists cause m).1 in
          let base : IsBaseClause input.kb mode.All (present i ∷ []) = base_present input.kb mode.All i (is_fact cause m i in_cause) alone rival in
          let live : Live input.kb w.early (present i ∷ []) = inl (subst (λ x. IsBaseClause input.kb x (present i ∷ [])) (sym (w.same_mode ∙ in_all)) base) in
          not_refuted input b question.Iar (absent i ∷ []) w (absent_refuted (Live input.kb w.early) i live)

  brave_decided : (cores : List ℕ) → ¬ IsSpent input.kb b cores question.Brave
  brave_decided cores (all, (cause, m, e)) = no_brave_spent cause m e

  iar_decided : (cores : List ℕ) → ¬ IsSpent input.kb b cores question.Iar
  iar_decided cores (all, (i, e)) = no_iar_spent i e

  -- no AR verdict of a candidate with at most one cause is open
  ar_decided : (cores : List ℕ) (brave iar : Verdict) → IsVerdict input.kb b cores question.Brave brave → IsVerdict input.kb b cores question.Iar iar
      → ((c d : List ℕ) → Contains (asked b).causes c → Contains (asked b).causes d → c ≡ d) → ¬ (¬ IsSettled input.kb b cores question.Ar)
  ar_decided cores verdict.Undecided iar bv iv single n = brave_decided cores bv.1
  ar_decided cores verdict.No iar bv iv single n = n (inr (inr bv))
  ar_decided cores verdict.Yes verdict.Undecided bv iv single n = iar_decided cores iv.1
  ar_decided cores verdict.Yes verdict.Yes bv iv single n = n (inl (inr iv))
  ar_decided cores verdict.Yes verdict.No bv (inr (inl a)) single n = n (inr (inl a))
  ar_decided cores verdict.Yes verdict.No bv (inr (inr a)) single n = n (inr (inr a))
  ar_decided cores verdict.Yes verdict.No bv (inl each) single n = go (asked b).causes refl
    where
      go : (causes : List (List ℕ)) → (asked b).causes ≡ causes → ⊥
      go [] e = n (inr (inr (λ cause m. absurd (Contains-nil cause (subst (λ cs. Contains cs cause) e m)))))
      go (c ∷ causes) e =
          let here : Contains (asked b).causes c = subst (λ cs. Contains cs c) (sym e) (Contains-head c causes) in
          let w = each c here in
          n (inr (inl (w.0, w.1, w.2, w.3, w.4, λ cause m. subst (λ d. Meets d w.2) (single c cause here m) w.5)))

  brave_said : (cores : List ℕ) (said : Verdict) → IsVerdict input.kb b cores question.Brave said → IsDecided said
  brave_said cores verdict.Yes v = tt
  brave_said cores verdict.No v = tt
  brave_said cores verdict.Undecided v = absurd (brave_decided cores v.1)

  iar_said : (cores : List ℕ) (said : Verdict) → IsVerdict input.kb b cores question.Iar said → IsDecided said
  iar_said cores verdict.Yes v = tt
  iar_said cores verdict.No v = tt
  iar_said cores verdict.Undecided v = absurd (iar_decided cores v.1)

  ar_said : (cores : List ℕ) (brave ar iar : Verdict) → IsVerdict input.kb b cores question.Brave brave → IsVerdict input.kb b cores question.Ar ar
      → IsVerdict input.kb b cores question.Iar iar
      → ((c d : List ℕ) → Contains (asked b).causes c → Contains (asked b).causes d → c ≡ d) → IsDecided ar
  ar_said cores brave verdict.Yes iar bv av iv single = tt
  ar_said cores brave verdict.No iar bv av iv single = tt
  ar_said cores brave verdict.Undecided iar bv av iv single = absurd (ar_decided cores brave iar bv iv single av.0)

-- over all repairs an open answer leaves no brave and no IAR verdict open, and none of a candidate with one cause
pub open_all_decides : (input : Input) (b : List Line) → IsRightAnswer input b → mode_of b ≡ mode.All → AreConsistentLists input.kb (asked b).causes
    → (cores : List ℕ) (brave ar iar : Verdict) → IsVerdict input.kb b cores question.Brave brave → IsVerdict input.kb b cores question.Ar ar
    → IsVerdict input.kb b cores question.Iar iar
    → IsDecided brave × IsDecided iar × (((c d : List ℕ) → Contains (asked b).causes c → Contains (asked b).causes d → c ≡ d) → IsDecided ar)
open_all_decides input b r a lists cores brave ar iar bv av iv = (
  brave_said input b r a lists cores brave bv,
  iar_said input b r a lists cores iar iv,
  ar_said input b r a lists cores brave ar iar bv av iv,
)

-- the causes of a tuple are lists of facts that are consistent together
pub consistent_lists : (kb : Knowledge) (q : Query) (tuple : List ℕ) (causes : List (List ℕ)) → AreCauses kb q tuple causes → AreConsistentLists kb causes
consistent_lists kb q tuple causes w cause m = (
  All-of (λ i. i < length kb.facts) cause (λ i k. listed_within kb q tuple causes w cause m i k),
  (listed_cause kb q tuple causes w cause m).1.consistent,
)

-- ---- each answer line in mode `all`

line_decided : (kb : Knowledge) (names : List (List ℕ)) (q : Query) (before : List Line) → mode_of before ≡ mode.All
    → (l : Line) → AnswersAt (report_on kb names q) before l → IsDecidedWithoutPriority kb q l
line_decided kb names q before a (line.Answer brave ar iar cores texts tuple) w =
    let input : Input = report_on kb names q in
    let h = opens_rightly input w.earlier w.right (ap is_answering w.at) in
    let in_all : mode_of w.earlier ≡ mode.All = w.same_mode ∙ a in
    let same : query_of input w.earlier ≡ q = one_query kb names q w.earlier w.right (λ e. in_answer (place_of w.earlier) w.at e) in
    let u = h.1.in_place.causes_are in
    let said = open_all_decides input w.earlier h.0 in_all (consistent_lists kb (query_of input w.earlier) (asked w.earlier).tuple (asked w.earlier).causes u)
    cores brave ar iar w.own.brave_is w.own.ar_is w.own.iar_is in (
      said.0,
      said.1,
      λ causes v single. said.2 (λ c d m n.
          let v' : AreCauses kb (query_of input w.earlier) (asked w.earlier).tuple causes =
          subst (λ p. AreCauses kb p (asked w.earlier).tuple causes) (sym same) (subst (λ t. AreCauses kb q t causes) w.own.same_tuple v) in
          let there : (c : List ℕ) → Contains (asked w.earlier).causes c
          → Contains causes c = same_causes kb (query_of input w.earlier) (asked w.earlier).tuple (asked w.earlier).causes causes u v' in
          single c d (there c m) (there d n)),
    )
line_decided kb names q before a (line.Head axioms budget facts keep repairs version) w = tt
line_decided kb names q before a (line.Cq o query step) w = tt
line_decided kb names q before a (line.Conflict facts rule member) w = tt
line_decided kb names q before a (line.Ask candidate tuple causes members) w = tt
line_decided kb names q before a (line.Try question assume) w = tt
line_decided kb names q before a (line.Learn number clause) w = tt
line_decided kb names q before a (line.Core number kept dropped) w = tt
line_decided kb names q before a (line.Done how core) w = tt
line_decided kb names q before a (line.Forget clauses) w = tt
line_decided kb names q before a (line.End answers brave ar iar undecided) w = tt

-- in mode `all` an accepted report leaves no brave and no IAR verdict open, and none of a candidate with one cause
pub all_mode_decides : (kb : Knowledge) (names : List (List ℕ)) (q : Query) (lines : List Line) → Accepts kb names q lines → mode_told lines ≡ mode.All
    → All (IsDecidedWithoutPriority kb q) lines
all_mode_decides kb names q lines w a =
    All-of (IsDecidedWithoutPriority kb q) lines (λ l m. line_decided kb names q (reverse lines) a l
    (answers_at (report_on kb names q) (reverse lines) w.right l (Contains-reverse lines l m)))
