-- What the lines of an answer show after one more try, and the evidence after it.
use Rattle.std.proofs.Common.{◌≡◌, ℕ, suc, ◌+◌, ◌<◌, ◌≤◌, ◌⊎◌, ◌↔◌, inl, inr, List, [], ◌∷◌, map, length, Contains, Bool, true, false, refl, sym, subst}
use Rattle.std.proofs.Common.{ap, ◌∙◌, arith}
use Rattle.std.proofs.Common.{◌*◌}
use Rattle.std.specs.Prelude.{slice_index_or}
use Rattle.std.proofs.lemmas.Bool.{cases_eq}
use Rattle.repair_clauses.specs.BaseClauses.{present, absent}
use Rattle.report_text.specs.declared.line.Line.{Line}
use Rattle.report_text.specs.declared.line.Question.{Question}
use Rattle.report_text.specs.declared.line.Question.TheVariants as question
use Rattle.report_text.specs.declared.line.How.{How}
use Rattle.report_text.specs.declared.line.How.TheVariants as how
use Rattle.report_rules.specs.declared.place.Place.TheVariants.{InAnswer}
use Rattle.report_rules.specs.Order.{place_of}
use Rattle.report_rules.specs.Tries.{Asked, Tried, Ended, NamesCore, count_cores}
use Rattle.report_rules.specs.Evidence.{SomeCore, Meets}
use Rattle.report_rules.specs.TryRules.{ShowsAsked}
use Rattle.report_laws.specs.OpenAnswers.{CoresAreNumbered}
use Rattle.answer_evidence.specs.declared.evidence.Evidence.{Evidence}
use Rattle.answer_evidence.specs.Sets.{SomeWithin, EachMeets}
use Rattle.answer_evidence.specs.Shown.{SeesCore, SeesRefuted, OnlyCores}
use Rattle.answer_desk.specs.Following.{Frame, own_selector, ShowsCores, ShowsTries, TriesHaveEnded, HasEnded, Stage, Stands, Shows}
use Rattle.answer_desk.proofs.FollowingTailLemmas.{AddsTry, SameCores, OneCore, some_same, some_one}

-- ---- both ways

pub then_back : {P Q R : Type 0} → P ↔ Q → R ↔ Q → P ↔ R
then_back a b = ((λ p. b.1 (a.0 p)), (λ r. a.1 (b.0 r)))

pub one_of : {A B C D E : Type 0} → A ↔ (B ⊎ C) → B ↔ D → E ↔ (D ⊎ C) → A ↔ E
one_of a b c = (
  (λ x. c.1 (elim (a.0 x) [ inl y ↦ inl (b.0 y) | inr z ↦ inr z ])),
  (λ x. a.1 (elim (c.0 x) [ inl y ↦ inl (b.1 y) | inr z ↦ inr z ])),
)

pub absent_one : (i j : ℕ) → absent i ∷ [] ≡ absent j ∷ [] → i ≡ j
absent_one i j e = let same : 2 * i + 1 ≡ 2 * j + 1 = cc in omega arith

-- ---- tries

module _ (q : Question) (assume : List ℕ) (h : How) (n : ℕ) (lines full : List Line) (a : AddsTry q assume h n lines full) where
  pub older : (q' : Question) (a' : List ℕ) (h' : How) → Ended q' a' h' lines → Ended q' a' h' full
  older q' a' h' e = (a.ended q' a' h').1 (inr e)

  pub stay : (q' : Question) (a' : List ℕ) (h' : How) → ((q ≡ q') × (assume ≡ a') × (h ≡ h') → ⊥) → Ended q' a' h' full ↔ Ended q' a' h' lines
  stay q' a' h' other = (
    (λ e. elim ((a.ended q' a' h').0 e) [ inl own ↦ absurd (other own) | inr o ↦ o ]),
    (λ o. older q' a' h' o),
  )

  pub over_after : (x : Asked) → TriesHaveEnded x lines → ¬ Tried q assume lines → ((P : List ℕ → List ℕ → Type 0) → SomeCore lines [] P → SomeCore full [] P)
      → (h ≡ how.Model → SomeCore full [] (ShowsAsked x q assume)) → TriesHaveEnded x full
  over_after x over new some model = record { tried = tried; ended = ended; once = once; shown = shown }
    where
      tried : (q' : Question) (a' : List ℕ) (h' : How) → Ended q' a' h' full → Tried q' a' full
      tried q' a' h' e = (a.tried q' a').1 (elim ((a.ended q' a' h').0 e) [
        | inl (b, c, d) ↦ inl (b, c)
        | inr o ↦ inr (over.tried q' a' h' o)
      ])

      ended : (q' : Question) (a' : List ℕ) → Tried q' a' full → (h' : How) × Ended q' a' h' full
      ended q' a' t = elim ((a.tried q' a').0 t) [
        | inl (b, c) ↦ (h, (a.ended q' a' h).1 (inl (b, c, refl)))
        | inr o ↦ (let w = over.ended q' a' o in (w.0, older q' a' w.0 w.1))
      ]

      not_before : (q' : Question) (a' : List ℕ) (h' : How) → q ≡ q' → assume ≡ a' → Ended q' a' h' lines → ⊥
      not_before q' a' h' b c o = new (subst (λ (y : Question). Tried y assume lines) (sym b)
          (subst (λ (y : List ℕ). Tried q' y lines) (sym c) (over.tried q' a' h' o)))

      once : (q' : Question) (a' : List ℕ) (h' h'' : How) → Ended q' a' h' full → Ended q' a' h'' full → h' ≡ h''
      once q' a' h' h'' e f = elim ((a.ended q' a' h').0 e) [
        | inl (b, c, d) ↦ elim ((a.ended q' a' h'').0 f) [
          | inl (b', c', d') ↦ sym d ∙ d'
          | inr o ↦ absurd (not_before q' a' h'' b c o)
        ]
        | inr o ↦ elim ((a.ended q' a' h'').0 f) [
          | inl (b, c, d) ↦ absurd (not_before q' a' h' b c o)
          | inr o' ↦ over.once q' a' h' h'' o o'
        ]
      ]

      shown : (q' : Question) (a' : List ℕ) → Ended q' a' how.Model full → SomeCore full [] (ShowsAsked x q' a')
      shown q' a' e = elim ((a.ended q' a' how.Model).0 e) [
        | inl (b, c, d) ↦ subst (λ (y : Question). SomeCore full [] (ShowsAsked x y a')) b
            (subst (λ (y : List ℕ). SomeCore full [] (ShowsAsked x q y)) c (model d))
        | inr o ↦ some (ShowsAsked x q' a') (over.shown q' a' o)
      ]

  pub has_ended : (cause : List ℕ) → HasEnded lines cause → HasEnded full cause
  has_ended cause (inl r) = inl (older question.Brave (map present cause) how.Refuted r)
  has_ended cause (inr s) = inr (older question.Brave (map present cause) how.Spent s)

  -- where only cores are new
  pub tries_same : (w : Frame) (e e' : Evidence) → ShowsTries w e lines → OnlyCores e e'
      → ((i : ℕ) → (q ≡ question.Iar) × (assume ≡ absent i ∷ []) × (h ≡ how.Refuted) → ⊥)
      → ((i : ℕ) → (q ≡ question.Iar) × (assume ≡ absent i ∷ []) × (h ≡ how.Spent) → ⊥)
      → ((q ≡ question.Ar) × (assume ≡ present (own_selector w) ∷ []) × (h ≡ how.Refuted) → ⊥)
      → ((cause : List ℕ) → (q ≡ question.Brave) × (assume ≡ map present cause) × (h ≡ how.Spent) → ⊥)
      → ShowsTries w e' full
  tries_same w e e' t x no_refuted no_spent no_ar no_brave = record {
    refuted = λ i. subst (λ (xs : List ℕ). Contains xs i ↔ Ended question.Iar (absent i ∷ []) how.Refuted full) (sym x.refuted)
        (then_back (t.refuted i) (stay question.Iar (absent i ∷ []) how.Refuted (no_refuted i)));
    spent = λ i. subst (λ (xs : List ℕ). Contains xs i ↔ Ended question.Iar (absent i ∷ []) how.Spent full) (sym x.spent)
        (then_back (t.spent i) (stay question.Iar (absent i ∷ []) how.Spent (no_spent i)));
    sure = subst (λ (b : Bool). (b ≡ true) ↔ SomeWithin w.asked.causes e'.refuted) (sym x.sure)
        (subst (λ (xs : List ℕ). (e.sure ≡ true) ↔ SomeWithin w.asked.causes xs) (sym x.refuted) t.sure);
    ar_refuted = subst (λ (b : Bool). (b ≡ true) ↔ Ended question.Ar (present (own_selector w) ∷ []) how.Refuted full) (sym x.ar_refuted)
        (then_back t.ar_refuted (stay question.Ar (present (own_selector w) ∷ []) how.Refuted no_ar));
    brave_spent = (
      (λ b. let (cause, m, s) = t.brave_spent.0 (sym x.brave_spent ∙ b) in (cause, m, older question.Brave (map present cause) how.Spent s)),
      (λ (cause, m, s). x.brave_spent ∙ t.brave_spent.1 (cause, m, (stay question.Brave (map present cause) how.Spent (no_brave cause)).0 s)),
    );
    brave_over = λ b cause m. has_ended cause (t.brave_over (sym x.brave_over ∙ b) cause m);
  }

-- ---- evidence after each kind of try that ends without a core

nothing_new : (e : Evidence) → OnlyCores e e
nothing_new e = record { brave_over = refl; brave_spent = refl; refuted = refl; spent = refl; sure = refl; ar_refuted = refl }

module _ (w : Frame) (e : Evidence) (n : ℕ) (lines full : List Line) (t : ShowsTries w e lines) where
  pub after_brave_refuted : (cause : List ℕ) → AddsTry question.Brave (map present cause) how.Refuted n lines full → ShowsTries w e full
  after_brave_refuted cause a = tries_same question.Brave (map present cause) how.Refuted n lines full a w e e t (nothing_new e)
      (λ i (x, y, z). absurd (cc)) (λ i (x, y, z). absurd (cc)) (λ (x, y, z). absurd (cc)) (λ c (x, y, z). absurd (cc))

  pub after_ar_spent : AddsTry question.Ar (present (own_selector w) ∷ []) how.Spent n lines full → ShowsTries w e full
  after_ar_spent a = tries_same question.Ar (present (own_selector w) ∷ []) how.Spent n lines full a w e e t (nothing_new e)
      (λ i (x, y, z). absurd (cc)) (λ i (x, y, z). absurd (cc)) (λ (x, y, z). absurd (cc)) (λ c (x, y, z). absurd (cc))

  pub after_model : (q : Question) (assume : List ℕ) (e' : Evidence) → AddsTry q assume how.Model n lines full → OnlyCores e e' → ShowsTries w e' full
  after_model q assume e' a x = tries_same q assume how.Model n lines full a w e e' t x
      (λ i (x, y, z). absurd (cc)) (λ i (x, y, z). absurd (cc)) (λ (x, y, z). absurd (cc)) (λ c (x, y, z). absurd (cc))

  pub after_brave_spent : (cause : List ℕ) → Contains w.asked.causes cause → AddsTry question.Brave (map present cause) how.Spent n lines full
      → ShowsTries w (record e { brave_spent = true }) full
  after_brave_spent cause member a = record {
    refuted = λ i. then_back (t.refuted i) (keep question.Iar (absent i ∷ []) how.Refuted (λ (x, y, z). absurd (cc)));
    spent = λ i. then_back (t.spent i) (keep question.Iar (absent i ∷ []) how.Spent (λ (x, y, z). absurd (cc)));
    sure = t.sure;
    ar_refuted = then_back t.ar_refuted (keep question.Ar (present (own_selector w) ∷ []) how.Refuted (λ (x, y, z). absurd (cc)));
    brave_spent = ((λ b. (cause, member, (a.ended question.Brave (map present cause) how.Spent).1 (inl (refl, refl, refl)))), (λ s. refl));
    brave_over = λ b c m. has_ended question.Brave (map present cause) how.Spent n lines full a c (t.brave_over b c m);
  }
    where
      keep : (q' : Question) (a' : List ℕ) (h' : How) → ((question.Brave ≡ q') × (map present cause ≡ a') × (how.Spent ≡ h') → ⊥)
          → Ended q' a' h' full ↔ Ended q' a' h' lines
      keep = stay question.Brave (map present cause) how.Spent n lines full a

  pub after_ar_refuted : AddsTry question.Ar (present (own_selector w) ∷ []) how.Refuted n lines full → ShowsTries w (record e { ar_refuted = true }) full
  after_ar_refuted a = record {
    refuted = λ i. then_back (t.refuted i) (keep question.Iar (absent i ∷ []) how.Refuted (λ (x, y, z). absurd (cc)));
    spent = λ i. then_back (t.spent i) (keep question.Iar (absent i ∷ []) how.Spent (λ (x, y, z). absurd (cc)));
    sure = t.sure;
    ar_refuted = (
      (λ b. (a.ended question.Ar (present (own_selector w) ∷ []) how.Refuted).1 (inl (refl, refl, refl))),
      (λ s. refl),
    );
    brave_spent = (
      (λ b. let (c, m, s) = t.brave_spent.0 b in (
        c,
        m,
        older question.Ar (present (own_selector w) ∷ []) how.Refuted n lines full a question.Brave
            (map present c) how.Spent s,
      )),
      (λ (c, m, s). t.brave_spent.1 (c, m, (keep question.Brave (map present c) how.Spent (λ (x, y, z). absurd (cc))).0 s)),
    );
    brave_over = λ b c m. has_ended question.Ar (present (own_selector w) ∷ []) how.Refuted n lines full a c (t.brave_over b c m);
  }
    where
      keep : (q' : Question) (a' : List ℕ) (h' : How) → ((question.Ar ≡ q') × (present (own_selector w) ∷ [] ≡ a') × (how.Refuted ≡ h') → ⊥)
          → Ended q' a' h' full ↔ Ended q' a' h' lines
      keep = stay question.Ar (present (own_selector w) ∷ []) how.Refuted n lines full a

  -- one more fact with a try that ended so
  fact_ended : (fact : ℕ) (h : How) → AddsTry question.Iar (absent fact ∷ []) h n lines full → (old new : List ℕ)
      → ((i : ℕ) → Contains old i ↔ Ended question.Iar (absent i ∷ []) h lines) → ((i : ℕ) → Contains new i ↔ (Contains old i ⊎ (i ≡ fact)))
      → (i : ℕ) → Contains new i ↔ Ended question.Iar (absent i ∷ []) h full
  fact_ended fact h a old new was more i = (
    (λ m. (a.ended question.Iar (absent i ∷ []) h).1 (elim ((more i).0 m) [
      | inl o ↦ inr ((was i).0 o)
      | inr e ↦ inl (refl, ap (λ (x : ℕ). absent x ∷ []) (sym e), refl)
    ])),
    (λ e. (more i).1 (elim ((a.ended question.Iar (absent i ∷ []) h).0 e) [
      | inl (b, c, d) ↦ inr (sym (absent_one fact i c))
      | inr o ↦ inl ((was i).1 o)
    ])),
  )

  pub after_iar_refuted : (fact : ℕ) (e' : Evidence) → SeesRefuted w.asked.causes fact e e'
      → AddsTry question.Iar (absent fact ∷ []) how.Refuted n lines full → ShowsTries w e' full
  after_iar_refuted fact e' sees a = subst (λ (x : Evidence). ShowsTries w x full) (sym sees.rest) (record {
    refuted = fact_ended fact how.Refuted a e.refuted e'.refuted t.refuted sees.refuted;
    spent = λ i. then_back (t.spent i) (keep question.Iar (absent i ∷ []) how.Spent (λ (x, y, z). absurd (cc)));
    sure = (
      (λ b. elim (sees.sure.0 b) [ inl o ↦ wider (t.sure.0 o) | inr s ↦ s ]),
      (λ s. sees.sure.1 (inr s)),
    );
    ar_refuted = then_back t.ar_refuted (keep question.Ar (present (own_selector w) ∷ []) how.Refuted (λ (x, y, z). absurd (cc)));
    brave_spent = (
      (λ b. let (c, m, s) = t.brave_spent.0 b in (
        c,
        m,
        older question.Iar (absent fact ∷ []) how.Refuted n lines full a question.Brave (map present c)
            how.Spent s,
      )),
      (λ (c, m, s). t.brave_spent.1 (c, m, (keep question.Brave (map present c) how.Spent (λ (x, y, z). absurd (cc))).0 s)),
    );
    brave_over = λ b c m. has_ended question.Iar (absent fact ∷ []) how.Refuted n lines full a c (t.brave_over b c m);
  })
    where
      keep : (q' : Question) (a' : List ℕ) (h' : How) → ((question.Iar ≡ q') × (absent fact ∷ [] ≡ a') × (how.Refuted ≡ h') → ⊥)
          → Ended q' a' h' full ↔ Ended q' a' h' lines
      keep = stay question.Iar (absent fact ∷ []) how.Refuted n lines full a

      wider : SomeWithin w.asked.causes e.refuted → SomeWithin w.asked.causes e'.refuted
      wider (c, m, within) = (c, m, (λ i k. (sees.refuted i).1 (inl (within i k))))

  pub after_iar_spent : (fact : ℕ) (e' : Evidence) → ((i : ℕ) → Contains e'.spent i ↔ (Contains e.spent i ⊎ (i ≡ fact)))
      → e' ≡ record e { spent = e'.spent }
      → AddsTry question.Iar (absent fact ∷ []) how.Spent n lines full → ShowsTries w e' full
  after_iar_spent fact e' gains only a = subst (λ (x : Evidence). ShowsTries w x full) (sym only) (record {
    refuted = λ i. then_back (t.refuted i) (keep question.Iar (absent i ∷ []) how.Refuted (λ (x, y, z). absurd (cc)));
    spent = fact_ended fact how.Spent a e.spent e'.spent t.spent gains;
    sure = t.sure;
    ar_refuted = then_back t.ar_refuted (keep question.Ar (present (own_selector w) ∷ []) how.Refuted (λ (x, y, z). absurd (cc)));
    brave_spent = (
      (λ b. let (c, m, s) = t.brave_spent.0 b in (
        c,
        m,
        older question.Iar (absent fact ∷ []) how.Spent n lines full a question.Brave (map present c)
            how.Spent s,
      )),
      (λ (c, m, s). t.brave_spent.1 (c, m, (keep question.Brave (map present c) how.Spent (λ (x, y, z). absurd (cc))).0 s)),
    );
    brave_over = λ b c m. has_ended question.Iar (absent fact ∷ []) how.Spent n lines full a c (t.brave_over b c m);
  })
    where
      keep : (q' : Question) (a' : List ℕ) (h' : How) → ((question.Iar ≡ q') × (absent fact ∷ [] ≡ a') × (how.Spent ≡ h') → ⊥)
          → Ended q' a' h' full ↔ Ended q' a' h' lines
      keep = stay question.Iar (absent fact ∷ []) how.Spent n lines full a

-- ---- cores after it

pub cores_same : (causes : List (List ℕ)) (e e' : Evidence) (lines full : List Line) → ShowsCores causes e lines → SameCores lines full
    → e'.keeps ≡ e.keeps → e'.drops_all ≡ e.drops_all → e'.cut.items ≡ e.cut.items → ShowsCores causes e' full
cores_same causes e e' lines full c s keeps drops cut = record {
  keeps = subst (λ (b : Bool). (b ≡ true) ↔ SomeCore full [] (λ kept dropped. SomeWithin causes kept)) (sym keeps)
      (then_back c.keeps (some_same lines full s (λ kept dropped. SomeWithin causes kept)));
  drops_all = subst (λ (b : Bool). (b ≡ true) ↔ SomeCore full [] (λ kept dropped. EachMeets causes dropped)) (sym drops)
      (then_back c.drops_all (some_same lines full s (λ kept dropped. EachMeets causes dropped)));
  all = ap length cut ∙ c.all;
  cut = λ i below. subst (λ (bs : List Bool). (slice_index_or bs i false ≡ true) ↔
      SomeCore full [] (λ kept dropped. Meets (slice_index_or causes i []) dropped))
      (sym cut) (then_back (c.cut i below) (some_same lines full s (λ kept dropped. Meets (slice_index_or causes i []) dropped)));
}

module _ (kept dropped : List ℕ) (lines full : List Line) (one : OneCore kept dropped lines full) (numbered : CoresAreNumbered lines)
    (below : (m : ℕ) → NamesCore lines m → m < count_cores lines) where
  some : (P : List ℕ → List ℕ → Type 0) → SomeCore full [] P ↔ (SomeCore lines [] P ⊎ P kept dropped)
  some = some_one kept dropped lines full one numbered below

  pub cores_more : (causes : List (List ℕ)) (e e' : Evidence) → ShowsCores causes e lines → SeesCore causes kept dropped e e' → ShowsCores causes e' full
  cores_more causes e e' c sees = record {
    keeps = one_of sees.keeps c.keeps (some (λ kept dropped. SomeWithin causes kept));
    drops_all = one_of sees.drops_all c.drops_all (some (λ kept dropped. EachMeets causes dropped));
    all = sees.cut.same_length ∙ c.all;
    cut = λ i l. one_of (sees.cut.exact i l) (c.cut i l) (some (λ kept dropped. Meets (slice_index_or causes i []) dropped));
  }

-- ---- between two tries again

pub shows_same : (w : Frame) (e e' : Evidence) (stage stage' : Stage) (q : Question) (assume : List ℕ) (h : How) (n : ℕ) (lines full : List Line)
    → Shows w e stage lines → AddsTry q assume h n lines full → SameCores lines full → ¬ Tried q assume lines → (h ≡ how.Model → ⊥)
    → place_of full ≡ InAnswer → e'.keeps ≡ e.keeps → e'.drops_all ≡ e.drops_all → e'.cut.items ≡ e.cut.items
    → ShowsTries w e' full → Stands w e' full stage' → Shows w e' stage' full
shows_same w e e' stage stage' q assume h n lines full s a same new without between keeps drops cut tries stands = record {
  between = between;
  asks = a.asks ∙ s.asks;
  cores_numbered = λ m k d c. subst (λ (x : ℕ). m < x) (sym same.count) (s.cores_numbered m k d ((same.contains m k d).0 c));
  named = λ m. subst (λ (x : ℕ). NamesCore full m ↔ ((w.start.cores ≤ m) × (m < x))) (sym same.count)
      ((λ x. (s.named m).0 ((same.named m).0 x)), (λ x. (same.named m).1 ((s.named m).1 x)));
  named_is = λ m x. let (k, d, c) = s.named_is m ((same.named m).0 x) in (k, d, (same.contains m k d).1 c);
  over = over_after q assume h n lines full a w.asked s.over new (λ P. (some_same lines full same P).1) (λ model. absurd (without model));
  cores = cores_same w.asked.causes e e' lines full s.cores same keeps drops cut;
  tries = tries;
  stands = stands;
}

pub shows_more : (w : Frame) (e e' : Evidence) (stage stage' : Stage) (q : Question) (assume : List ℕ) (n : ℕ) (lines full : List Line) (kept dropped : List ℕ)
    → Shows w e stage lines → AddsTry q assume how.Model n lines full → OneCore kept dropped lines full → ¬ Tried q assume lines
    → w.start.cores ≤ count_cores lines → place_of full ≡ InAnswer → ShowsAsked w.asked q assume kept dropped
    → SeesCore w.asked.causes kept dropped e e' → Stands w e' full stage' → Shows w e' stage' full
shows_more w e e' stage stage' q assume n lines full kept dropped s a one new least between shows sees stands = record {
  between = between;
  asks = a.asks ∙ s.asks;
  cores_numbered = λ m k d c. subst (λ (x : ℕ). m < x) (sym one.count) (elim ((one.contains m k d).0 c) [
    | inl (x, y, z) ↦ omega arith
    | inr o ↦ (let l = s.cores_numbered m k d o in omega arith)
  ]);
  named = λ m. subst (λ (x : ℕ). NamesCore full m ↔ ((w.start.cores ≤ m) × (m < x))) (sym one.count)
      ((λ x. to m ((one.named m).0 x)), (λ x. (one.named m).1 (from m x)));
  named_is = λ m x. elim ((one.named m).0 x) [
    | inl e ↦ (kept, dropped, (one.contains m kept dropped).1 (inl (e, refl, refl)))
    | inr o ↦ (let (k, d, c) = s.named_is m o in (k, d, (one.contains m k d).1 (inr c)))
  ];
  over = over_after q assume how.Model n lines full a w.asked s.over new (λ P p. (some_one kept dropped lines full one s.cores_numbered below P).1 (inl p))
      (λ model. (some_one kept dropped lines full one s.cores_numbered below (ShowsAsked w.asked q assume)).1 (inr shows));
  cores = cores_more kept dropped lines full one s.cores_numbered below w.asked.causes e e' s.cores sees;
  tries = after_model w e n lines full s.tries q assume e' a sees.only;
  stands = stands;
}
  where
    below : (m : ℕ) → NamesCore lines m → m < count_cores lines
    below m x = ((s.named m).0 x).1

    to : (m : ℕ) → (count_cores lines ≡ m) ⊎ NamesCore lines m → (w.start.cores ≤ m) × (m < suc (count_cores lines))
    to m (inl e) = (omega arith, omega arith)
    to m (inr x) = let l = (s.named m).0 x in let a = l.0 in let b = l.1 in (a, omega arith)

    from : (m : ℕ) → (w.start.cores ≤ m) × (m < suc (count_cores lines)) → (count_cores lines ≡ m) ⊎ NamesCore lines m
    from m (l, k) = elim (cases_eq (count_cores lines) m) [
      | inl e ↦ inl e
      | inr n ↦ inr ((s.named m).1 (l, omega arith))
    ]
