-- What the evidence says of each question is what the lines of the answer show.
use Rattle.std.proofs.Common.{◌≡◌, ℕ, zero, suc, ◌+◌, ◌<◌, ◌⊎◌, ◌↔◌, inl, inr, List, [], ◌∷◌, map, length, Contains, Bool, true, false, not, refl, sym}
use Rattle.std.proofs.Common.{subst, ap, ◌∙◌, arith}
use Rattle.std.proofs.Common.{true≢false}
use Rattle.std.specs.Prelude.{slice_index_or}
use Rattle.std.proofs.lemmas.Bool.{or_cases, or_left, or_right, or_parts, and_parts, and_from, and_cases, cases_Bool, not-true}
use Rattle.std.proofs.lemmas.List.{get_or_default}
use Rattle.cq_terms.specs.Knowledge.{Knowledge}
use Rattle.clause_meaning.specs.Refutation.{IsWithin}
use Rattle.clause_meaning.specs.Literals.{variable_of}
use Rattle.repair_clauses.specs.BaseClauses.{present, absent}
use Rattle.repair_clauses.proofs.LiteralLemmas.{variable_of-present}
use Rattle.report_text.specs.declared.line.Line.{Line}
use Rattle.report_text.specs.declared.line.Question.{Question}
use Rattle.report_text.specs.declared.line.Question.TheVariants as question
use Rattle.report_text.specs.declared.line.Verdict.TheVariants as verdict
use Rattle.report_text.specs.declared.line.How.TheVariants as how
use Rattle.report_rules.specs.Inputs.{selector_of}
use Rattle.report_rules.specs.Tries.{Asked, asked, Ended, NamesCore}
use Rattle.report_rules.specs.Evidence.{SomeCore, Meets, IsShown, IsSettledAs, IsSettled, IsSpent, IsVerdict}
use Rattle.answer_evidence.specs.declared.evidence.Evidence.{Evidence}
use Rattle.answer_evidence.specs.Sets.{SomeWithin, EachMeets}
use Rattle.answer_evidence.specs.Shown.{is_brave_no, is_ar_yes, is_ar_no, all_true, is_yes, is_no, verdict_by, verdict_in, is_undecided}
use Rattle.answer_desk.specs.Following.{Frame, own_selector, ShowsCores, ShowsTries, TriesHaveEnded, HasEnded, BraveIsOver, IsAtEnd}

-- ---- literals and tests

facts_present : (cause : List ℕ) → map variable_of (map present cause) ≡ cause
facts_present [] = refl
facts_present (i ∷ cause) = ap (λ (n : ℕ). n ∷ map variable_of (map present cause)) (variable_of-present i)
    ∙ ap (λ (ns : List ℕ). i ∷ ns) (facts_present cause)

pub present_one : (c d : List ℕ) → map present c ≡ map present d → c ≡ d
present_one c d e = sym (facts_present c) ∙ (ap (map variable_of) e ∙ facts_present d)

pub all_true_at : (bs : List Bool) → all_true bs ≡ true → (i : ℕ) → i < length bs → slice_index_or bs i false ≡ true
all_true_at [] t i l = absurd (omega arith)
all_true_at (b ∷ bs) t zero l = (and_parts b (all_true bs) t).0
all_true_at (b ∷ bs) t (suc i) l = all_true_at bs (and_parts b (all_true bs) t).1 i (omega arith)

pub all_true_from : (bs : List Bool) → ((i : ℕ) → i < length bs → slice_index_or bs i false ≡ true) → all_true bs ≡ true
all_true_from [] h = refl
all_true_from (b ∷ bs) h = and_from b (all_true bs) (h zero (omega arith)) (all_true_from bs (λ i l. h (suc i) (omega arith)))

pub some_false : (bs : List Bool) → all_true bs ≡ false → (i : ℕ) × (i < length bs) × (slice_index_or bs i false ≡ false)
some_false [] f = absurd (true≢false f)
some_false (b ∷ bs) f = elim (and_cases b (all_true bs) f) [
  | inl h ↦ (zero, omega arith, h)
  | inr r ↦ (let (i, l, h) = some_false bs r in (suc i, omega arith, h))
]

-- where a question isn't settled both tests are false
pub open_parts : (y n : Bool) → is_undecided (verdict_by y n) ≡ true → (y ≡ false) × (n ≡ false)
open_parts true n t = absurd (true≢false (sym t))
open_parts false true t = absurd (true≢false (sym t))
open_parts false false t = (refl, refl)

pub open_from : (y n : Bool) → y ≡ false → n ≡ false → is_undecided (verdict_by y n) ≡ true
open_from true n a b = absurd (true≢false a)
open_from false true a b = absurd (true≢false b)
open_from false false a b = refl

-- a fact of the cause is dropped, or its try was spent; and so it is of each cause by the evidence
abbrev IsOut : List Line → List ℕ → List ℕ → Type 0
IsOut lines numbers cause = SomeCore lines numbers (λ kept dropped. Meets cause dropped)
    ⊎ ((i : ℕ) × Contains cause i × Ended question.Iar (absent i ∷ []) how.Spent lines)

abbrev AllOut : List (List ℕ) → Evidence → Type 0
AllOut causes e = (i : ℕ) → i < length causes → (slice_index_or e.cut.items i false ≡ true)
    ⊎ ((f : ℕ) × Contains (slice_index_or causes i []) f × Contains e.spent f)

-- ---- what is shown

module _ (w : Frame) (e : Evidence) (lines : List Line) (asks : asked lines ≡ w.asked) (cores : ShowsCores w.asked.causes e lines)
    (tries : ShowsTries w e lines) (over : TriesHaveEnded w.asked lines) (kb : Knowledge) (facts : w.better.facts ≡ length kb.facts) (numbers : List ℕ)
    (named : (n : ℕ) → Contains numbers n → NamesCore lines n) where
  -- a core of the answer is one that its lines name
  fewer : (P : List ℕ → List ℕ → Type 0) → SomeCore lines numbers P → SomeCore lines [] P
  fewer P (n, kept, dropped, inl m, l, p) = (n, kept, dropped, inl m, l, p)
  fewer P (n, kept, dropped, inr m, l, p) = (n, kept, dropped, inl (named n m), l, p)

  further : (P : List ℕ → List ℕ → Type 0) → SomeCore lines [] P → SomeCore lines numbers P
  further P (n, kept, dropped, inl m, l, p) = (n, kept, dropped, inl m, l, p)
  further P (n, kept, dropped, inr (k, l, is), m, p) = absurd (omega arith)

  selects : own_selector w ≡ selector_of kb (asked lines).candidate
  selects = ap (λ (n : ℕ). n + w.asked.candidate) facts ∙ ap (λ (x : Asked). selector_of kb x.candidate) (sym asks)

  keeps_shown : (e.keeps ≡ true) ↔ IsShown kb lines numbers question.Brave verdict.Yes
  keeps_shown = (
    (λ t. subst (λ (x : Asked). SomeCore lines numbers (λ kept dropped. SomeWithin x.causes kept)) (sym asks)
        (further (λ kept dropped. SomeWithin w.asked.causes kept) (cores.keeps.0 t))),
    (λ s. cores.keeps.1 (fewer (λ kept dropped. SomeWithin w.asked.causes kept)
        (subst (λ (x : Asked). SomeCore lines numbers (λ kept dropped. SomeWithin x.causes kept)) asks s))),
  )

  drops_shown : (e.drops_all ≡ true) ↔ IsShown kb lines numbers question.Ar verdict.No
  drops_shown = (
    (λ t. subst (λ (x : Asked). SomeCore lines numbers (λ kept dropped. EachMeets x.causes dropped)) (sym asks)
        (further (λ kept dropped. EachMeets w.asked.causes dropped) (cores.drops_all.0 t))),
    (λ s. cores.drops_all.1 (fewer (λ kept dropped. EachMeets w.asked.causes dropped)
        (subst (λ (x : Asked). SomeCore lines numbers (λ kept dropped. EachMeets x.causes dropped)) asks s))),
  )

  refuted_shown : (e.ar_refuted ≡ true) ↔ IsShown kb lines numbers question.Ar verdict.Yes
  refuted_shown = (
    (λ t. subst (λ (n : ℕ). Ended question.Ar (present n ∷ []) how.Refuted lines) selects (tries.ar_refuted.0 t)),
    (λ s. tries.ar_refuted.1 (subst (λ (n : ℕ). Ended question.Ar (present n ∷ []) how.Refuted lines) (sym selects) s)),
  )

  sure_shown : (e.sure ≡ true) ↔ IsShown kb lines numbers question.Iar verdict.Yes
  sure_shown = (
    (λ t. let (cause, m, within) = tries.sure.0 t in
        (cause, subst (λ (x : Asked). Contains x.causes cause) (sym asks) m, (λ i k. (tries.refuted i).0 (within i k)))),
    (λ (cause, m, all). tries.sure.1 (cause, subst (λ (x : Asked). Contains x.causes cause) asks m, (λ i k. (tries.refuted i).1 (all i k)))),
  )

  cut_shown : (all_true e.cut.items ≡ true) ↔ IsShown kb lines numbers question.Iar verdict.No
  cut_shown = (
    (λ t. subst (λ (x : Asked). (cause : List ℕ) → Contains x.causes cause → SomeCore lines numbers (λ kept dropped. Meets cause dropped)) (sym asks) (to t)),
    (λ s. from (subst (λ (x : Asked). (cause : List ℕ) → Contains x.causes cause → SomeCore lines numbers (λ kept dropped. Meets cause dropped)) asks s)),
  )
    where
      to : all_true e.cut.items ≡ true → (cause : List ℕ) → Contains w.asked.causes cause → SomeCore lines numbers (λ kept dropped. Meets cause dropped)
      to t cause (k, l, is) =
          let same : slice_index_or w.asked.causes k [] ≡ cause = get_or_default w.asked.causes k [] cause l ∙ is in
          let size = cores.all in
          further (λ kept dropped. Meets cause dropped) (subst (λ (c : List ℕ). SomeCore lines [] (λ kept dropped. Meets c dropped)) same
          ((cores.cut k l).0 (all_true_at e.cut.items t k (omega arith))))

      from : ((cause : List ℕ) → Contains w.asked.causes cause → SomeCore lines numbers (λ kept dropped. Meets cause dropped))
          → all_true e.cut.items ≡ true
      from h = all_true_from e.cut.items (λ i l.
          let size = cores.all in
          let below : i < length w.asked.causes = omega arith in
          (cores.cut i below).1 (fewer (λ kept dropped. Meets (slice_index_or w.asked.causes i []) dropped)
          (h (slice_index_or w.asked.causes i []) (i, below, get_or_default w.asked.causes i (slice_index_or w.asked.causes i []) [] below))))

  -- ---- settled

  yes_settled : (q : Question) → (is_yes e q ≡ true) ↔ IsSettledAs kb lines numbers q verdict.Yes
  yes_settled question.Brave = (
    (λ t. elim (or_cases e.keeps (is_ar_yes e) t) [
      | inl k ↦ inl (keeps_shown.0 k)
      | inr a ↦ inr (elim (or_cases e.ar_refuted e.sure a) [ inl r ↦ inl (refuted_shown.0 r) | inr s ↦ inr (sure_shown.0 s) ])
    ]),
    (λ s. elim s [
      | inl k ↦ or_left e.keeps (is_ar_yes e) (keeps_shown.1 k)
      | inr a ↦ or_right e.keeps (is_ar_yes e) (elim a [
        | inl r ↦ or_left e.ar_refuted e.sure (refuted_shown.1 r)
        | inr s ↦ or_right e.ar_refuted e.sure (sure_shown.1 s)
      ])
    ]),
  )
  yes_settled question.Ar = (
    (λ t. elim (or_cases e.ar_refuted e.sure t) [ inl r ↦ inl (refuted_shown.0 r) | inr s ↦ inr (sure_shown.0 s) ]),
    (λ a. elim a [ inl r ↦ or_left e.ar_refuted e.sure (refuted_shown.1 r) | inr s ↦ or_right e.ar_refuted e.sure (sure_shown.1 s) ]),
  )
  yes_settled question.Iar = sure_shown

  module _ (brave : BraveIsOver w e lines) where
    -- each cause was refuted exactly where none was spent and none ended with a core
    brave_no_shown : (is_brave_no e ≡ true) ↔ IsShown kb lines numbers question.Brave verdict.No
    brave_no_shown = (
      (λ t. subst (λ (x : Asked). (cause : List ℕ) → Contains x.causes cause → Ended question.Brave (map present cause) how.Refuted lines) (sym asks) (to t)),
      (λ s. from (subst (λ (x : Asked). (cause : List ℕ) → Contains x.causes cause → Ended question.Brave (map present cause) how.Refuted lines) asks s)
          brave),
    )
      where
        to : is_brave_no e ≡ true → (cause : List ℕ) → Contains w.asked.causes cause → Ended question.Brave (map present cause) how.Refuted lines
        to t cause m = elim (tries.brave_over (and_parts e.brave_over (not e.brave_spent) t).0 cause m) [
          | inl r ↦ r
          | inr s ↦ absurd (true≢false (sym (tries.brave_spent.1 (cause, m, s)) ∙ not-true e.brave_spent (and_parts e.brave_over (not e.brave_spent) t).1))
        ]

        not_spent : ((cause : List ℕ) → Contains w.asked.causes cause → Ended question.Brave (map present cause) how.Refuted lines)
            → not e.brave_spent ≡ true
        not_spent h = elim (cases_Bool e.brave_spent) [
          | inl t ↦ (let (cause, m, s) = tries.brave_spent.0 t in
              absurd (let same : how.Refuted ≡ how.Spent = over.once question.Brave (map present cause) how.Refuted how.Spent (h cause m) s in cc))
          | inr f ↦ ap not f
        ]

        from : ((cause : List ℕ) → Contains w.asked.causes cause → Ended question.Brave (map present cause) how.Refuted lines) → BraveIsOver w e lines
            → is_brave_no e ≡ true
        from h (inl t) = and_from e.brave_over (not e.brave_spent) t (not_spent h)
        from h (inr (cause, m, model)) =
            absurd (let same : how.Refuted ≡ how.Model = over.once question.Brave (map present cause) how.Refuted how.Model (h cause m) model in cc)

    no_settled : (q : Question) → (is_no e q ≡ true) ↔ IsSettledAs kb lines numbers q verdict.No
    no_settled question.Brave = brave_no_shown
    no_settled question.Ar = (
      (λ t. elim (or_cases e.drops_all (is_brave_no e) t) [ inl d ↦ inl (drops_shown.0 d) | inr b ↦ inr (brave_no_shown.0 b) ]),
      (λ a. elim a [ inl d ↦ or_left e.drops_all (is_brave_no e) (drops_shown.1 d) | inr b ↦ or_right e.drops_all (is_brave_no e) (brave_no_shown.1 b) ]),
    )
    no_settled question.Iar = (
      (λ t. elim (or_cases (all_true e.cut.items) (is_ar_no e) t) [
        | inl c ↦ inl (cut_shown.0 c)
        | inr a ↦ inr (elim (or_cases e.drops_all (is_brave_no e) a) [ inl d ↦ inl (drops_shown.0 d) | inr b ↦ inr (brave_no_shown.0 b) ])
      ]),
      (λ s. elim s [
        | inl c ↦ or_left (all_true e.cut.items) (is_ar_no e) (cut_shown.1 c)
        | inr a ↦ or_right (all_true e.cut.items) (is_ar_no e) (elim a [
          | inl d ↦ or_left e.drops_all (is_brave_no e) (drops_shown.1 d)
          | inr b ↦ or_right e.drops_all (is_brave_no e) (brave_no_shown.1 b)
        ])
      ]),
    )

    -- a question that the evidence leaves open isn't settled
    pub left_open : (q : Question) → is_undecided (verdict_in e q) ≡ true → ¬ IsSettled kb lines numbers q
    left_open q unsettled (inl said) = true≢false (sym ((yes_settled q).1 said) ∙ (open_parts (is_yes e q) (is_no e q) unsettled).0)
    left_open q unsettled (inr no_more) = true≢false (sym ((no_settled q).1 no_more) ∙ (open_parts (is_yes e q) (is_no e q) unsettled).1)

  -- ---- spent

  module _ (ends : IsAtEnd w e lines) where
    spent_is : (q : Question) → is_yes e q ≡ false → is_no e q ≡ false → IsSpent kb lines numbers q
    spent_is question.Brave y n = go (over_now ends.brave)
      where
        over_now : BraveIsOver w e lines → e.brave_over ≡ true
        over_now (inl t) = t
        over_now (inr (cause, m, model)) = absurd (true≢false (sym (or_left e.keeps (is_ar_yes e) (cores.keeps.1 kept)) ∙ y))
          where
            kept : SomeCore lines [] (λ kept dropped. SomeWithin w.asked.causes kept)
            kept = let (k, a, d, s, l, (c, same, within)) = over.shown question.Brave (map present cause) model in
                (k, a, d, s, l, (cause, m, subst (λ (x : List ℕ). IsWithin x a) (sym (present_one cause c same)) within))

        go : e.brave_over ≡ true → IsSpent kb lines numbers question.Brave
        go t = elim (cases_Bool e.brave_spent) [
          | inl s ↦ (
            subst (λ (x : Asked). (cause : List ℕ) → Contains x.causes cause → HasEnded lines cause) (sym asks) (tries.brave_over t),
            subst (λ (x : Asked). (cause : List ℕ) × Contains x.causes cause × Ended question.Brave (map present cause) how.Spent lines) (sym asks)
                (tries.brave_spent.0 s),
          )
          | inr f ↦ absurd (true≢false (sym (and_from e.brave_over (not e.brave_spent) t (ap not f)) ∙ n))
        ]
    spent_is question.Ar y n = elim ends.ar [
      | inl settled ↦ absurd (true≢false (sym (open_from (is_yes e question.Ar) (is_no e question.Ar) y n) ∙ settled))
      | inr spent ↦ subst (λ (x : ℕ). Ended question.Ar (present x ∷ []) how.Spent lines) selects spent
    ]
    spent_is question.Iar y n = elim ends.iar [
      | inl settled ↦ absurd (true≢false (sym (open_from (is_yes e question.Iar) (is_no e question.Iar) y n) ∙ settled))
      | inr each ↦ (
        subst (λ (x : Asked). (cause : List ℕ) → Contains x.causes cause → IsOut lines numbers cause) (sym asks) (out each),
        some_spent each,
      )
    ]
      where
        out : AllOut w.asked.causes e → (cause : List ℕ) → Contains w.asked.causes cause → IsOut lines numbers cause
        out each cause (k, l, is) =
            let same : slice_index_or w.asked.causes k [] ≡ cause = get_or_default w.asked.causes k [] cause l ∙ is in
            elim (each k l) [
              | inl c ↦ inl (further (λ kept dropped. Meets cause dropped) (subst (λ (x : List ℕ). SomeCore lines [] (λ kept dropped. Meets x dropped)) same
                  ((cores.cut k l).0 c)))
              | inr (f, m, s) ↦ inr (f, subst (λ (x : List ℕ). Contains x f) same m, (tries.spent f).0 s)
            ]

        some_spent : AllOut w.asked.causes e → (i : ℕ) × Ended question.Iar (absent i ∷ []) how.Spent lines
        some_spent each =
            let (i, below, f) = some_false e.cut.items (or_parts (all_true e.cut.items) (is_ar_no e) n).0 in
            let size = cores.all in
            elim (each i (omega arith)) [ inl t ↦ absurd (true≢false (sym t ∙ f)) | inr (fact, m, s) ↦ (fact, (tries.spent fact).0 s) ]

    pub verdict_said : (q : Question) → IsVerdict kb lines numbers q (verdict_in e q)
    verdict_said q = go (is_yes e q) (is_no e q) refl refl
      where
        go : (y n : Bool) → is_yes e q ≡ y → is_no e q ≡ n → IsVerdict kb lines numbers q (verdict_by y n)
        go true n a b = (yes_settled q).0 a
        go false true a b = (no_settled ends.brave q).0 b
        go false false a b = (left_open ends.brave q (open_from (is_yes e q) (is_no e q) a b), spent_is q a b)
