-- What the lines of one try change of what the lines of an answer tell.
use Rattle.std.proofs.Common.{◌≡◌, ℕ, suc, ◌+◌, ◌<◌, ◌⊎◌, ◌↔◌, inl, inr, List, [], ◌∷◌, ◌++◌, length, Contains, false, refl, sym, subst, ap, ◌∙◌, arith}
use Rattle.std.proofs.Common.{Option, Some, None}
use Rattle.cq_meaning.proofs.Members.{Contains-head, Contains-later, Contains-cases, Contains-nil}
use Rattle.proof_logs.specs.Logs.{Learned}
use Rattle.report_text.specs.declared.line.Line.{Line}
use Rattle.report_text.specs.declared.line.Line.TheVariants as line
use Rattle.report_text.specs.declared.line.Question.{Question}
use Rattle.report_text.specs.declared.line.Question.TheVariants as question
use Rattle.report_text.specs.declared.line.How.{How}
use Rattle.report_text.specs.declared.line.How.TheVariants as how
use Rattle.report_rules.specs.Tries.{asked, question_of, assumed, Tried, Ended, NamesCore, count_cores}
use Rattle.report_rules.specs.Live.{learned_for, same_question}
use Rattle.report_rules.specs.Evidence.{SomeCore}
use Rattle.report_laws.specs.OpenAnswers.{CoresAreNumbered}
use Rattle.answer_evidence.specs.Logging.{learn_line}
use Rattle.answer_desk.specs.Following.{learn_lines, try_lines, core_lines}
use Rattle.answer_desk.proofs.FollowingLineLemmas.{learn_lines_more, skip_learns, skip_learns_for}
use Rattle.answer_desk.proofs.FollowingSearchLemmas.{trying_all}

-- the lines T are those before, the line of a try and `learn` lines
pub record IsTail (q : Question) (assume : List ℕ) (n : ℕ) (lines T : List Line) : Type 0 where
  pub question_is : question_of T ≡ q
  pub assumed_is : assumed T ≡ assume
  pub asks : asked T ≡ asked lines
  pub tried : (q' : Question) (a' : List ℕ) → Tried q' a' T ↔ (((q ≡ q') × (assume ≡ a')) ⊎ Tried q' a' lines)
  pub ended : (q' : Question) (a' : List ℕ) (h' : How) → Ended q' a' h' T ↔ Ended q' a' h' lines
  pub used : learned_for q T ≡ learned_for q lines + n
  pub others : (q' : Question) → (q ≡ q' → ⊥) → learned_for q' T ≡ learned_for q' lines
  pub count : count_cores T ≡ count_cores lines
  pub named : (m : ℕ) → NamesCore T m ↔ NamesCore lines m
  pub contains : (m : ℕ) (k d : List ℕ) → Contains T (line.Core m k d) ↔ Contains lines (line.Core m k d)

not_same : (q q' : Question) → (q ≡ q' → ⊥) → same_question q' q ≡ false
not_same question.Brave question.Brave n = absurd (n refl)
not_same question.Brave question.Iar n = refl
not_same question.Brave question.Ar n = refl
not_same question.Iar question.Brave n = refl
not_same question.Iar question.Iar n = absurd (n refl)
not_same question.Iar question.Ar n = refl
not_same question.Ar question.Brave n = refl
not_same question.Ar question.Iar n = refl
not_same question.Ar question.Ar n = absurd (n refl)

-- clauses that are learned for one question aren't counted for another
others_stay : (q q' : Question) → (q ≡ q' → ⊥) → (es : List Learned) (b : List Line) → question_of b ≡ q
    → learned_for q' (learn_lines es ++ b) ≡ learned_for q' b
others_stay q q' n [] b e = refl
others_stay q q' n (x ∷ es) b e = ap (learned_for q') (learn_lines_more x es b) ∙ (others_stay q q' n es (learn_line x ∷ b) e ∙ one)
  where
    one : learned_for q' (learn_line x ∷ b) ≡ learned_for q' b
    one = rw e (rw (not_same q q' n) refl)

-- a line that is no core line
past : (l : Line) (b : List Line) (m : ℕ) (k d : List ℕ) → (l ≡ line.Core m k d → ⊥) → Contains (l ∷ b) (line.Core m k d) ↔ Contains b (line.Core m k d)
past l b m k d n = (
  (λ h. elim (Contains-cases l b (line.Core m k d) h) [ inl e ↦ absurd (n e) | inr t ↦ t ]),
  (λ t. Contains-later l b (line.Core m k d) t),
)

pub tail_of : (q : Question) (assume : List ℕ) (es : List Learned) (lines : List Line) → IsTail q assume (length es) lines (try_lines q assume es lines)
tail_of q assume es lines =
    let t = trying_all q assume es (line.Try q assume ∷ lines) (learned_for q lines)
    (record { place = refl; question_is = refl; assumed_is = refl; used_is = refl }) in
    record {
      question_is = t.question_is;
      assumed_is = t.assumed_is;
      asks = skip_learns asked (λ n c b. refl) es (line.Try q assume ∷ lines);
      tried = λ q' a'. skip_learns_for (λ (b : List Line). Tried q' a' b) (λ n c b. ((λ h. h), (λ h. h))) es (line.Try q assume ∷ lines);
      ended = λ q' a' h'. skip_learns_for (λ (b : List Line). Ended q' a' h' b) (λ n c b. ((λ h. h), (λ h. h))) es (line.Try q assume ∷ lines);
      used = t.used_is;
      others = λ q' n. others_stay q q' n es (line.Try q assume ∷ lines) refl;
      count = skip_learns count_cores (λ n c b. refl) es (line.Try q assume ∷ lines);
      named = λ m. skip_learns_for (λ (b : List Line). NamesCore b m) (λ n c b. ((λ h. h), (λ h. h))) es (line.Try q assume ∷ lines);
      contains = λ m k d.
          let learns = skip_learns_for (λ (b : List Line). Contains b (line.Core m k d))
          (λ n c b. past (line.Learn n c) b m k d (λ e. absurd (cc))) es (line.Try q assume ∷ lines) in
          let one = past (line.Try q assume) lines m k d (λ e. absurd (cc)) in
          ((λ h. one.0 (learns.0 h)), (λ h. learns.1 (one.1 h)));
    }

-- behind a tail a `done` line adds a try that ended
pub record AddsTry (q : Question) (assume : List ℕ) (h : How) (n : ℕ) (lines full : List Line) : Type 0 where
  pub asks : asked full ≡ asked lines
  pub tried : (q' : Question) (a' : List ℕ) → Tried q' a' full ↔ (((q ≡ q') × (assume ≡ a')) ⊎ Tried q' a' lines)
  pub ended : (q' : Question) (a' : List ℕ) (h' : How) → Ended q' a' h' full ↔ (((q ≡ q') × (assume ≡ a') × (h ≡ h')) ⊎ Ended q' a' h' lines)
  pub used : learned_for q full ≡ learned_for q lines + n
  pub others : (q' : Question) → (q ≡ q' → ⊥) → learned_for q' full ≡ learned_for q' lines

ended_by : (q q' qt : Question) (a a' at : List ℕ) (h h' : How) → qt ≡ q → at ≡ a
    → ((qt ≡ q') × (at ≡ a') × (h ≡ h')) ↔ ((q ≡ q') × (a ≡ a') × (h ≡ h'))
ended_by q q' qt a a' at h h' x y = ((λ (b, c, d). (sym x ∙ b, sym y ∙ c, d)), (λ (b, c, d). (x ∙ b, y ∙ c, d)))

pub adds_done : (q : Question) (assume : List ℕ) (h : How) (n : ℕ) (lines T : List Line) (core : Option ℕ) → IsTail q assume n lines T
    → AddsTry q assume h n lines (line.Done h core ∷ T)
adds_done q assume h n lines T core t = record {
  asks = t.asks;
  tried = t.tried;
  ended = λ q' a' h'.
      let own = ended_by q q' (question_of T) assume a' (assumed T) h h' t.question_is t.assumed_is in (
        (λ x. elim x [ inl o ↦ inl (own.0 o) | inr o ↦ inr ((t.ended q' a' h').0 o) ]),
        (λ x. elim x [ inl o ↦ inl (own.1 o) | inr o ↦ inr ((t.ended q' a' h').1 o) ]),
      );
  used = t.used;
  others = t.others;
}

pub adds_core : (q : Question) (assume : List ℕ) (n : ℕ) (lines T : List Line) (number : ℕ) (kept dropped : List ℕ) → IsTail q assume n lines T
    → AddsTry q assume how.Model n lines (core_lines number kept dropped T)
adds_core q assume n lines T number kept dropped t = record {
  asks = t.asks;
  tried = t.tried;
  ended = λ q' a' h'.
      let own = ended_by q q' (question_of T) assume a' (assumed T) how.Model h' t.question_is t.assumed_is in (
        (λ x. elim x [ inl o ↦ inl (own.0 o) | inr o ↦ inr ((t.ended q' a' h').0 o) ]),
        (λ x. elim x [ inl o ↦ inl (own.1 o) | inr o ↦ inr ((t.ended q' a' h').1 o) ]),
      );
  used = t.used;
  others = t.others;
}

-- ---- cores

-- the cores stay
pub record SameCores (lines full : List Line) : Type 0 where
  pub count : count_cores full ≡ count_cores lines
  pub named : (m : ℕ) → NamesCore full m ↔ NamesCore lines m
  pub contains : (m : ℕ) (k d : List ℕ) → Contains full (line.Core m k d) ↔ Contains lines (line.Core m k d)

pub same_cores : (q : Question) (assume : List ℕ) (h : How) (n : ℕ) (lines T : List Line) → IsTail q assume n lines T
    → SameCores lines (line.Done h None ∷ T)
same_cores q assume h n lines T t = record {
  count = t.count;
  named = λ m. ((λ x. elim x [ inl e ↦ absurd (cc) | inr o ↦ (t.named m).0 o ]), (λ o. inr ((t.named m).1 o)));
  contains = λ m k d.
      let one = past (line.Done h None) T m k d (λ e. absurd (cc)) in ((λ x. (t.contains m k d).0 (one.0 x)), (λ x. one.1 ((t.contains m k d).1 x)));
}

-- or there is one more
pub record OneCore (kept dropped : List ℕ) (lines full : List Line) : Type 0 where
  pub count : count_cores full ≡ suc (count_cores lines)
  pub named : (m : ℕ) → NamesCore full m ↔ ((count_cores lines ≡ m) ⊎ NamesCore lines m)
  pub contains : (m : ℕ) (k d : List ℕ) → Contains full (line.Core m k d)
      ↔ (((count_cores lines ≡ m) × (kept ≡ k) × (dropped ≡ d)) ⊎ Contains lines (line.Core m k d))

pub one_core : (q : Question) (assume : List ℕ) (n : ℕ) (lines T : List Line) (number : ℕ) (kept dropped : List ℕ) → IsTail q assume n lines T
    → number ≡ count_cores lines → OneCore kept dropped lines (core_lines number kept dropped T)
one_core q assume n lines T number kept dropped t next = record {
  count = ap suc t.count;
  named = λ m. (
    (λ x. elim x [ inl e ↦ inl (let same : number ≡ m = cc in sym next ∙ same) | inr o ↦ inr ((t.named m).0 o) ]),
    (λ x. elim x [ inl e ↦ inl (ap Some (next ∙ e)) | inr o ↦ inr ((t.named m).1 o) ]),
  );
  contains = λ m k d.
      let done = past (line.Done how.Model (Some number)) (line.Core number kept dropped ∷ T) m k d (λ e. absurd (cc)) in (
        (λ x. elim (Contains-cases (line.Core number kept dropped) T (line.Core m k d) (done.0 x)) [
          | inl e ↦ inl (let a : number ≡ m = cc in let b : kept ≡ k = cc in let c : dropped ≡ d = cc in (sym next ∙ a, b, c))
          | inr o ↦ inr ((t.contains m k d).0 o)
        ]),
        (λ x. elim x [
          | inl (a, b, c) ↦ done.1 (let e : line.Core number kept dropped ≡ line.Core m k d = cc in
              subst (Contains (line.Core number kept dropped ∷ T)) e (Contains-head (line.Core number kept dropped) T))
          | inr o ↦ done.1 (Contains-later (line.Core number kept dropped) T (line.Core m k d) ((t.contains m k d).1 o))
        ]),
      );
}

pub some_same : (lines full : List Line) → SameCores lines full → (P : List ℕ → List ℕ → Type 0) → SomeCore full [] P ↔ SomeCore lines [] P
some_same lines full s P = (to, from)
  where
    to : SomeCore full [] P → SomeCore lines [] P
    to (m, k, d, inl x, c, p) = (m, k, d, inl ((s.named m).0 x), (s.contains m k d).0 c, p)
    to (m, k, d, inr x, c, p) = absurd (Contains-nil m x)

    from : SomeCore lines [] P → SomeCore full [] P
    from (m, k, d, inl x, c, p) = (m, k, d, inl ((s.named m).1 x), (s.contains m k d).1 c, p)
    from (m, k, d, inr x, c, p) = absurd (Contains-nil m x)

pub some_one : (kept dropped : List ℕ) (lines full : List Line) → OneCore kept dropped lines full → CoresAreNumbered lines
    → ((m : ℕ) → NamesCore lines m → m < count_cores lines) → (P : List ℕ → List ℕ → Type 0)
    → SomeCore full [] P ↔ (SomeCore lines [] P ⊎ P kept dropped)
some_one kept dropped lines full s numbered below P = (to, from)
  where
    old : (m : ℕ) (k d : List ℕ) → Contains lines (line.Core m k d) → P k d → (count_cores lines ≡ m) ⊎ NamesCore lines m
        → SomeCore lines [] P ⊎ P kept dropped
    old m k d c p (inl e) = absurd (let l = numbered m k d c in omega arith)
    old m k d c p (inr x) = inl (m, k, d, inl x, c, p)

    to : SomeCore full [] P → SomeCore lines [] P ⊎ P kept dropped
    to (m, k, d, inl x, c, p) = elim ((s.contains m k d).0 c) [
      | inl (a, b, e) ↦ inr (subst (λ (y : List ℕ). P y dropped) (sym b) (subst (P k) (sym e) p))
      | inr o ↦ old m k d o p ((s.named m).0 x)
    ]
    to (m, k, d, inr x, c, p) = absurd (Contains-nil m x)

    from : SomeCore lines [] P ⊎ P kept dropped → SomeCore full [] P
    from (inl (m, k, d, inl x, c, p)) = (m, k, d, inl ((s.named m).1 (inr x)), (s.contains m k d).1 (inr c), p)
    from (inl (m, k, d, inr x, c, p)) = absurd (Contains-nil m x)
    from (inr p) = (
      count_cores lines,
      kept,
      dropped,
      inl ((s.named (count_cores lines)).1 (inl refl)),
      (s.contains (count_cores lines) kept dropped).1 (inl (refl, refl, refl)),
      p,
    )
