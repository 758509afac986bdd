-- Each try that ends leaves an open answer: by question, and by how it ended.
use Rattle.std.proofs.Common.{◌≡◌, ℕ, ◌+◌, ◌≤◌, ◌⊎◌, ◌↔◌, inl, inr, List, [], ◌∷◌, ◌++◌, map, length, Contains, Bool, true, false, not, ◌&&◌, refl, sym}
use Rattle.std.proofs.Common.{subst, ap, ◌∙◌, arith}
use Rattle.std.proofs.Common.{None, true≢false}
use Rattle.std.proofs.lemmas.Bool.{or_cases, or_left, or_right}
use Rattle.std.proofs.lemmas.List.Elements.{Contains-push, Contains-push_cases, Contains-append_left}
use Rattle.clause_meaning.specs.Refutation.{IsWithin}
use Rattle.cq_terms.specs.Knowledge.{Knowledge}
use Rattle.repair_clauses.specs.BaseClauses.{present, absent}
use Rattle.cdcl_core.specs.State.{State}
use Rattle.proof_logs.specs.Logs.{Learned}
use Rattle.cdcl_core.specs.Learning.{IsRefuted}
use Rattle.report_text.specs.declared.line.Line.{Line}
use Rattle.report_text.specs.declared.line.Line.TheVariants as line
use Rattle.report_text.specs.declared.line.Question.{Question}
use Rattle.report_text.specs.declared.line.Question.TheVariants as question
use Rattle.report_text.specs.declared.line.How.{How}
use Rattle.report_text.specs.declared.line.How.TheVariants as how
use Rattle.report_rules.specs.Inputs.{report_on}
use Rattle.report_rules.specs.Tries.{NamesCore, count_cores}
use Rattle.report_rules.specs.TryRules.{IsEasy, ShowsAsked}
use Rattle.priority_graph.specs.Inputs.{IsPriorityOf}
use Rattle.report_laws.specs.OpenAnswers.{Tells}
use Rattle.report_laws.proofs.OverPriorityLemmas.{some_base}
use Rattle.report_laws.proofs.StartLemmas.{start_told}
use Rattle.answer_evidence.specs.declared.evidence.Evidence.{Evidence}
use Rattle.answer_evidence.specs.Sets.{EachMeets}
use Rattle.answer_evidence.specs.Shown.{SeesCore, SeesRefuted, is_undecided, verdict_in, verdict_by, is_yes, is_no, is_ar_no, is_brave_no, all_true}
use Rattle.answer_desk.specs.Following.{Frame, own_selector, own_scope, lines_on, IsToldBefore, IsBaseOf, IsFrame, HasEnded, Stage, AtBrave, AtIar, AtEnd}
use Rattle.answer_desk.specs.Following.{IsAtBrave, IsAtIar}
use Rattle.answer_evidence.specs.Aims.{IsCoreOver}
use Rattle.answer_desk.specs.Following.{BraveIsOver, IarIsOver, Stands, Shows, ShowsTries, Follows, FollowsOpen, FollowsTry, try_lines, core_lines}
use Rattle.answer_desk.proofs.FollowingLineLemmas.{try_lines_on, skip_learns, count_cores-on}
use Rattle.answer_desk.proofs.FollowingVerdictLemmas.{all_true_at, all_true_from}
use Rattle.answer_desk.proofs.FollowingDoneLemmas.{follows_refuted, follows_spent, follows_model}
use Rattle.answer_desk.proofs.FollowingTailLemmas.{IsTail, tail_of, AddsTry, adds_done, adds_core, SameCores, same_cores, one_core}
use Rattle.answer_desk.proofs.FollowingShowLemmas.{older, has_ended, after_brave_refuted, after_brave_spent, after_iar_refuted, after_iar_spent}
use Rattle.answer_desk.proofs.FollowingShowLemmas.{after_ar_refuted}
use Rattle.answer_desk.proofs.FollowingShowLemmas.{after_ar_spent, shows_same, shows_more}

-- ---- how far the answer is after a try

-- one more cause is done
brave_stands : (cause : List ℕ) (done : List (List ℕ)) (used : ℕ) (h : How) (n : ℕ) (lines full : List Line)
    → IsAtBrave lines done used → AddsTry question.Brave (map present cause) h n lines full → (h ≡ how.Refuted) ⊎ (h ≡ how.Spent)
    → ((m : ℕ) → ¬ NamesCore full m) → IsAtBrave full (done ++ cause ∷ []) (used + n)
brave_stands cause done used h n lines full s a ends none = record {
  used_is = a.used ∙ ap (λ (m : ℕ). m + n) s.used_is;
  none_used = (a.others question.Iar (λ e. absurd (cc)) ∙ s.none_used.0, a.others question.Ar (λ e. absurd (cc)) ∙ s.none_used.1);
  only = λ q' a' t. elim ((a.tried q' a').0 t) [
    | inl (x, y) ↦ (sym x, cause, Contains-push done cause, sym y)
    | inr o ↦ (let (x, c, m, y) = s.only q' a' o in (x, c, Contains-append_left done (cause ∷ []) c m, y))
  ];
  each = λ c m. elim (Contains-push_cases done cause c m) [
    | inl o ↦ has_ended question.Brave (map present cause) h n lines full a c (s.each c o)
    | inr e ↦ subst (HasEnded full) e own
  ];
  none_named = none;
}
  where
    own : HasEnded full cause
    own = elim ends [
      | inl r ↦ inl ((a.ended question.Brave (map present cause) how.Refuted).1 (inl (refl, refl, r)))
      | inr s ↦ inr ((a.ended question.Brave (map present cause) how.Spent).1 (inl (refl, refl, s)))
    ]

-- brave ended with a core
brave_over_stands : (w : Frame) (e : Evidence) (cause : List ℕ) (done : List (List ℕ)) (used n : ℕ) (lines full : List Line) → Contains w.asked.causes cause
    → IsAtBrave lines done used → AddsTry question.Brave (map present cause) how.Model n lines full → IsAtIar w e full 0
brave_over_stands w e cause done used n lines full m s a = record {
  used_is = a.others question.Iar (λ x. absurd (cc)) ∙ s.none_used.0;
  none_used = a.others question.Ar (λ x. absurd (cc)) ∙ s.none_used.1;
  no_ar = λ assume t. elim ((a.tried question.Ar assume).0 t) [
    | inl (x, y) ↦ absurd (cc)
    | inr o ↦ (let x = s.only question.Ar assume o in let same : question.Ar ≡ question.Brave = x.0 in absurd (cc))
  ];
  brave = inr (cause, m, (a.ended question.Brave (map present cause) how.Model).1 (inl (refl, refl, refl)));
}

-- brave stays over
brave_stays : (w : Frame) (e e' : Evidence) (q : Question) (assume : List ℕ) (h : How) (n : ℕ) (lines full : List Line) → AddsTry q assume h n lines full
    → e'.brave_over ≡ e.brave_over → BraveIsOver w e lines → BraveIsOver w e' full
brave_stays w e e' q assume h n lines full a same (inl t) = inl (same ∙ t)
brave_stays w e e' q assume h n lines full a same (inr (c, m, model)) =
    inr (c, m, older q assume h n lines full a question.Brave (map present c) how.Model model)

iar_stands : (w : Frame) (e e' : Evidence) (fact : ℕ) (used : ℕ) (h : How) (n : ℕ) (lines full : List Line) → e'.brave_over ≡ e.brave_over
    → IsAtIar w e lines used → AddsTry question.Iar (absent fact ∷ []) h n lines full → IsAtIar w e' full (used + n)
iar_stands w e e' fact used h n lines full same s a = record {
  used_is = a.used ∙ ap (λ (m : ℕ). m + n) s.used_is;
  none_used = a.others question.Ar (λ x. absurd (cc)) ∙ s.none_used;
  no_ar = λ assume t. elim ((a.tried question.Ar assume).0 t) [ inl (x, y) ↦ absurd (cc) | inr o ↦ s.no_ar assume o ];
  brave = brave_stays w e e' question.Iar (absent fact ∷ []) h n lines full a same s.brave;
}

-- ---- IAR stays over

pub decided_cases : (y n : Bool) → is_undecided (verdict_by y n) ≡ false → (y ≡ true) ⊎ (n ≡ true)
decided_cases true n d = inl refl
decided_cases false true d = inr refl
decided_cases false false d = absurd (true≢false d)

pub decided_yes : (y n : Bool) → y ≡ true → is_undecided (verdict_by y n) ≡ false
decided_yes true n t = refl
decided_yes false n t = absurd (true≢false (sym t))

pub decided_no : (y n : Bool) → n ≡ true → is_undecided (verdict_by y n) ≡ false
decided_no true n t = refl
decided_no false true t = refl
decided_no false false t = absurd (true≢false (sym t))

pub iar_settled_stays : (causes : List (List ℕ)) (kept dropped : List ℕ) (e e' : Evidence) → length e.cut.items ≡ length causes
    → SeesCore causes kept dropped e e' → is_undecided (verdict_in e question.Iar) ≡ false → is_undecided (verdict_in e' question.Iar) ≡ false
iar_settled_stays causes kept dropped e e' all sees settled =
    elim (decided_cases (is_yes e question.Iar) (is_no e question.Iar) settled) [
      | inl sure ↦ decided_yes (is_yes e' question.Iar) (is_no e' question.Iar) (sees.only.sure ∙ sure)
      | inr shown ↦ decided_no (is_yes e' question.Iar) (is_no e' question.Iar) (elim (or_cases (all_true e.cut.items) (is_ar_no e) shown) [
        | inl c ↦ or_left (all_true e'.cut.items) (is_ar_no e') (cut c)
        | inr a ↦ or_right (all_true e'.cut.items) (is_ar_no e') (elim (or_cases e.drops_all (is_brave_no e) a) [
          | inl d ↦ or_left e'.drops_all (is_brave_no e') (sees.drops_all.1 (inl d))
          | inr b ↦ or_right e'.drops_all (is_brave_no e') (same_brave ∙ b)
        ])
      ])
    ]
  where
    same_brave : is_brave_no e' ≡ is_brave_no e
    same_brave = ap (λ (b : Bool). b && not e'.brave_spent) sees.only.brave_over ∙ ap (λ (b : Bool). e.brave_over && not b) sees.only.brave_spent

    cut : all_true e.cut.items ≡ true → all_true e'.cut.items ≡ true
    cut t = all_true_from e'.cut.items (λ i l.
        let size = sees.cut.same_length in
        let size' = all in
        (sees.cut.exact i (omega arith)).1 (inl (all_true_at e.cut.items t i (omega arith))))

iar_stays : (causes : List (List ℕ)) (kept dropped : List ℕ) (e e' : Evidence) → length e.cut.items ≡ length causes → SeesCore causes kept dropped e e'
    → IarIsOver causes e → IarIsOver causes e'
iar_stays causes kept dropped e e' all sees (inl settled) = inl (iar_settled_stays causes kept dropped e e' all sees settled)
iar_stays causes kept dropped e e' all sees (inr each) = inr (λ i l. elim (each i l) [
  | inl t ↦ inl ((sees.cut.exact i l).1 (inl t))
  | inr (f, m, s) ↦ inr (f, m, subst (λ (xs : List ℕ). Contains xs f) (sym sees.only.spent) s)
])

-- ---- from a try to an open answer

module _ (w : Frame) (more : List Line) (q : Question) (assume : List ℕ) (used : ℕ) (entries : List Learned) (state : State) (cores : ℕ) (stage : Stage)
    (e : Evidence) (t : FollowsTry w more q assume used entries state cores stage e) where
  tail : (before : List Line) → IsTail q assume (length entries) (lines_on w more before) (try_lines q assume entries (lines_on w more before))
  tail before = tail_of q assume entries (lines_on w more before)

  least : (before : List Line) → IsToldBefore w before → w.start.cores ≤ count_cores (lines_on w more before)
  least before told = let c = count_cores-on w more before in let s = told.cores in omega arith

  number : (before : List Line) → IsToldBefore w before → cores ≡ count_cores (lines_on w more before)
  number before told = let c = count_cores-on w more before in let s = told.cores in let n = t.cores_are in omega arith

  same_count : count_cores (try_lines q assume entries more) ≡ count_cores more
  same_count = skip_learns count_cores (λ n k b. refl) entries (line.Try q assume ∷ more)

  -- without a core
  pub opens_done : (h : How) (e' : Evidence) (stage' : Stage) → (h ≡ how.Model → ⊥) → e'.keeps ≡ e.keeps → e'.drops_all ≡ e.drops_all
      → e'.cut.items ≡ e.cut.items
      → ((before : List Line) → IsToldBefore w before → (full : List Line)
      → AddsTry q assume h (length entries) (lines_on w more before) full → SameCores (lines_on w more before) full
      → Shows w e stage (lines_on w more before) → ShowsTries w e' full × Stands w e' full stage')
      → Follows w (line.Done h None ∷ try_lines q assume entries more) state
      → FollowsOpen w (line.Done h None ∷ try_lines q assume entries more) state cores stage' e'
  opens_done h e' stage' without keeps drops cut after follows = record {
    follows = follows;
    cores_are = t.cores_are ∙ ap (λ (n : ℕ). w.start.cores + n) (sym same_count);
    shows = λ before told.
        let full : List Line = line.Done h None ∷ try_lines q assume entries (lines_on w more before) in
        let a = adds_done q assume h (length entries) (lines_on w more before) (try_lines q assume entries (lines_on w more before)) None (tail before) in
        let same = same_cores q assume h (length entries) (lines_on w more before) (try_lines q assume entries (lines_on w more before)) (tail before) in
        let s = t.shows before told in
        let x = after before told full a same s in
        subst (Shows w e' stage') (ap (λ (xs : List Line). line.Done h None ∷ xs) (sym (try_lines_on w q assume entries more before)))
        (shows_same w e e' stage stage' q assume h (length entries) (lines_on w more before) full s a same (t.new before told) without refl keeps drops cut
        x.0 x.1);
  }

  -- with one
  pub opens_model : (kept dropped : List ℕ) → IsCoreOver w.better kept dropped → ShowsAsked w.asked q assume kept dropped → (e' : Evidence) (stage' : Stage)
      → SeesCore w.asked.causes kept dropped e e'
      → ((before : List Line) → IsToldBefore w before → (full : List Line)
      → AddsTry q assume how.Model (length entries) (lines_on w more before) full → Shows w e stage (lines_on w more before) → Stands w e' full stage')
      → FollowsOpen w (core_lines cores kept dropped (try_lines q assume entries more)) state (cores + 1) stage' e'
  opens_model kept dropped c shown e' stage' sees after = record {
    follows = follows_model w more q assume used entries state cores stage e t kept dropped c shown;
    cores_are = (let n = t.cores_are in let s = same_count in omega arith);
    shows = λ before told.
        let T : List Line = try_lines q assume entries (lines_on w more before) in
        let a = adds_core q assume (length entries) (lines_on w more before) T cores kept dropped (tail before) in
        let one = one_core q assume (length entries) (lines_on w more before) T cores kept dropped (tail before) (number before told) in
        let s = t.shows before told in
        subst (Shows w e' stage') (ap (λ (xs : List Line). core_lines cores kept dropped xs) (sym (try_lines_on w q assume entries more before)))
        (shows_more w e e' stage stage' q assume (length entries) (lines_on w more before) (core_lines cores kept dropped T) kept dropped s a one
        (t.new before told) (least before told) refl shown sees (after before told (core_lines cores kept dropped T) a s));
  }

-- ---- brave

-- a question without a core names none
none_still : (w : Frame) (lines full : List Line) (done : List (List ℕ)) (used : ℕ) → SameCores lines full → IsAtBrave lines done used → (m : ℕ)
    → ¬ NamesCore full m
none_still w lines full done used same s m x = s.none_named m ((same.named m).0 x)

module _ (w : Frame) (more : List Line) (cause : List ℕ) (used : ℕ) (entries : List Learned) (state : State) (cores : ℕ) (done : List (List ℕ)) (e : Evidence)
    (member : Contains w.asked.causes cause)
    (t : FollowsTry w more question.Brave (map present cause) used entries state cores (AtBrave done used) e) where
  pub brave_refuted : IsRefuted state (own_scope w) (map present cause)
      → FollowsOpen w (line.Done how.Refuted None ∷ try_lines question.Brave (map present cause) entries more) state cores
      (AtBrave (done ++ cause ∷ []) (used + length entries)) e
  brave_refuted r = opens_done w more question.Brave (map present cause) used entries state cores (AtBrave done used) e t how.Refuted e
      (AtBrave (done ++ cause ∷ []) (used + length entries)) (λ x. absurd (cc)) refl refl refl
      (λ before told full a same s. (
        after_brave_refuted w e (length entries) (lines_on w more before) full s.tries cause a,
        brave_stands cause done used how.Refuted (length entries) (lines_on w more before) full s.stands a (inl refl)
            (none_still w (lines_on w more before) full done used same s.stands),
      )) (follows_refuted w more question.Brave (map present cause) used entries state cores (AtBrave done used) e t r)

  pub brave_spent : (IsRefuted state (own_scope w) (map present cause) → ⊥) → used + length entries ≡ w.start.budget
      → ((kb : Knowledge) → IsBaseOf w kb → ¬ IsEasy kb w.start.mode question.Brave (map present cause))
      → FollowsOpen w (line.Done how.Spent None ∷ try_lines question.Brave (map present cause) entries more) state cores
      (AtBrave (done ++ cause ∷ []) (used + length entries)) (record e { brave_spent = true })
  brave_spent unrefuted whole hard = opens_done w more question.Brave (map present cause) used entries state cores (AtBrave done used) e t how.Spent
      (record e { brave_spent = true }) (AtBrave (done ++ cause ∷ []) (used + length entries)) (λ x. absurd (cc)) refl refl refl
      (λ before told full a same s. (
        after_brave_spent w e (length entries) (lines_on w more before) full s.tries cause member a,
        brave_stands cause done used how.Spent (length entries) (lines_on w more before) full s.stands a (inr refl)
            (none_still w (lines_on w more before) full done used same s.stands),
      )) (follows_spent w more question.Brave (map present cause) used entries state cores (AtBrave done used) e t unrefuted whole hard)

  pub brave_model : (kept dropped : List ℕ) → IsCoreOver w.better kept dropped → IsWithin cause kept → (e' : Evidence)
      → SeesCore w.asked.causes kept dropped e e'
      → FollowsOpen w (core_lines cores kept dropped (try_lines question.Brave (map present cause) entries more)) state (cores + 1) (AtIar 0) e'
  brave_model kept dropped c within e' sees = opens_model w more question.Brave (map present cause)
      used entries state cores (AtBrave done used) e t kept dropped
      c (cause, refl, within) e' (AtIar 0) sees
      (λ before told full a s. brave_over_stands w e' cause done used (length entries) (lines_on w more before) full member s.stands a)

-- a cause that stands twice is done once
pub brave_skips : (w : Frame) (more : List Line) (state : State) (cores : ℕ) (done : List (List ℕ)) (used : ℕ) (e : Evidence) (cause : List ℕ)
    → FollowsOpen w more state cores (AtBrave done used) e → Contains done cause → FollowsOpen w more state cores (AtBrave (done ++ cause ∷ []) used) e
brave_skips w more state cores done used e cause o twice = record {
  follows = o.follows;
  cores_are = o.cores_are;
  shows = λ before told. let s = o.shows before told in record {
    between = s.between;
    asks = s.asks;
    cores_numbered = s.cores_numbered;
    named = s.named;
    named_is = s.named_is;
    over = s.over;
    cores = s.cores;
    tries = s.tries;
    stands = record {
      used_is = s.stands.used_is;
      none_used = s.stands.none_used;
      only = λ q a t. let (x, c, m, y) = s.stands.only q a t in (x, c, Contains-append_left done (cause ∷ []) c m, y);
      each = λ c m. elim (Contains-push_cases done cause c m) [ inl k ↦ s.stands.each c k | inr e ↦ s.stands.each c (subst (Contains done) e twice) ];
      none_named = s.stands.none_named;
    };
  };
}

-- each cause is done: brave is over
pub brave_ends : (w : Frame) (more : List Line) (state : State) (cores : ℕ) (done : List (List ℕ)) (used : ℕ) (e : Evidence)
    → FollowsOpen w more state cores (AtBrave done used) e → ((cause : List ℕ) → Contains w.asked.causes cause → Contains done cause)
    → FollowsOpen w more state cores (AtIar 0) (record e { brave_over = true })
brave_ends w more state cores done used e o all = record {
  follows = o.follows;
  cores_are = o.cores_are;
  shows = λ before told. let s = o.shows before told in record {
    between = s.between;
    asks = s.asks;
    cores_numbered = s.cores_numbered;
    named = s.named;
    named_is = s.named_is;
    over = s.over;
    cores = record { keeps = s.cores.keeps; drops_all = s.cores.drops_all; all = s.cores.all; cut = s.cores.cut };
    tries = record {
      refuted = s.tries.refuted;
      spent = s.tries.spent;
      sure = s.tries.sure;
      ar_refuted = s.tries.ar_refuted;
      brave_spent = s.tries.brave_spent;
      brave_over = λ t c m. s.stands.each c (all c m);
    };
    stands = record {
      used_is = s.stands.none_used.0;
      none_used = s.stands.none_used.1;
      no_ar = λ assume t. let x = s.stands.only question.Ar assume t in let same : question.Ar ≡ question.Brave = x.0 in absurd (cc);
      brave = inl refl;
    };
  };
}

-- ---- IAR

module _ (w : Frame) (more : List Line) (fact : ℕ) (used : ℕ) (entries : List Learned) (state : State) (cores : ℕ) (e : Evidence)
    (t : FollowsTry w more question.Iar (absent fact ∷ []) used entries state cores (AtIar used) e) where
  pub iar_refuted : IsRefuted state (own_scope w) (absent fact ∷ []) → (e' : Evidence) → SeesRefuted w.asked.causes fact e e'
      → FollowsOpen w (line.Done how.Refuted None ∷ try_lines question.Iar (absent fact ∷ []) entries more) state cores (AtIar (used + length entries)) e'
  iar_refuted r e' sees = opens_done w more question.Iar (absent fact ∷ []) used entries state cores (AtIar used) e t how.Refuted e'
      (AtIar (used + length entries)) (λ x. absurd (cc)) (ap (λ (x : Evidence). x.keeps) sees.rest) (ap (λ (x : Evidence). x.drops_all) sees.rest)
      (ap (λ (x : Evidence). x.cut.items) sees.rest)
      (λ before told full a same s. (
        after_iar_refuted w e (length entries) (lines_on w more before) full s.tries fact e' sees a,
        iar_stands w e e' fact used how.Refuted (length entries) (lines_on w more before) full (ap (λ (x : Evidence). x.brave_over) sees.rest) s.stands a,
      )) (follows_refuted w more question.Iar (absent fact ∷ []) used entries state cores (AtIar used) e t r)

  pub iar_spent : (IsRefuted state (own_scope w) (absent fact ∷ []) → ⊥) → used + length entries ≡ w.start.budget
      → ((kb : Knowledge) → IsBaseOf w kb → ¬ IsEasy kb w.start.mode question.Iar (absent fact ∷ [])) → (e' : Evidence)
      → ((i : ℕ) → Contains e'.spent i ↔ (Contains e.spent i ⊎ (i ≡ fact))) → e' ≡ record e { spent = e'.spent }
      → FollowsOpen w (line.Done how.Spent None ∷ try_lines question.Iar (absent fact ∷ []) entries more) state cores (AtIar (used + length entries)) e'
  iar_spent unrefuted whole hard e' gains only = opens_done w more question.Iar (absent fact ∷ []) used entries state cores (AtIar used) e t how.Spent e'
      (AtIar (used + length entries)) (λ x. absurd (cc)) (ap (λ (x : Evidence). x.keeps) only) (ap (λ (x : Evidence). x.drops_all) only)
      (ap (λ (x : Evidence). x.cut.items) only)
      (λ before told full a same s. (
        after_iar_spent w e (length entries) (lines_on w more before) full s.tries fact e' gains only a,
        iar_stands w e e' fact used how.Spent (length entries) (lines_on w more before) full (ap (λ (x : Evidence). x.brave_over) only) s.stands a,
      )) (follows_spent w more question.Iar (absent fact ∷ []) used entries state cores (AtIar used) e t unrefuted whole hard)

  pub iar_model : (kept dropped : List ℕ) → IsCoreOver w.better kept dropped → Contains dropped fact → (e' : Evidence)
      → SeesCore w.asked.causes kept dropped e e'
      → FollowsOpen w (core_lines cores kept dropped (try_lines question.Iar (absent fact ∷ []) entries more)) state (cores + 1)
      (AtIar (used + length entries)) e'
  iar_model kept dropped c drop e' sees = opens_model w more question.Iar (absent fact ∷ []) used entries state cores (AtIar used) e t kept dropped
      c (fact, refl, drop) e' (AtIar (used + length entries)) sees
      (λ before told full a s. iar_stands w e e' fact used how.Model (length entries) (lines_on w more before) full sees.only.brave_over s.stands a)

-- some lines tell what an answer starts with
pub some_before : (w : Frame) → IsFrame w → (before : List Line) × IsToldBefore w before
some_before w frame = go (some_base w.better frame.priority w.start.mode frame.fits)
  where
    go : (kb : Knowledge) × IsPriorityOf kb w.start.mode w.better → (before : List Line) × IsToldBefore w before
    go (kb, of) =
        let t = start_told (report_on kb [] (record { head = []; body = [] })) w.start frame.count in
        (t.0, subst (λ (n : ℕ). Tells n w.start t.0) (sym of.facts) t.1)

-- where all facts of a cause are refuted IAR is settled
pub iar_sure : (w : Frame) (more : List Line) (state : State) (cores : ℕ) (stage : Stage) (e : Evidence) → FollowsOpen w more state cores stage e
    → (cause : List ℕ) → Contains w.asked.causes cause → IsWithin cause e.refuted → is_undecided (verdict_in e question.Iar) ≡ false
iar_sure w more state cores stage e o cause m within =
    let (before, told) = some_before w o.follows.frame in
    decided_yes (is_yes e question.Iar) (is_no e question.Iar) ((o.shows before told).tries.sure.1 (cause, m, within))

-- ---- AR

-- AR is settled without a try
pub ar_settled : (w : Frame) (more : List Line) (state : State) (cores : ℕ) (used : ℕ) (e : Evidence) → FollowsOpen w more state cores (AtIar used) e
    → IarIsOver w.asked.causes e → is_undecided (verdict_in e question.Ar) ≡ false → FollowsOpen w more state cores AtEnd e
ar_settled w more state cores used e o iar settled = record {
  follows = o.follows;
  cores_are = o.cores_are;
  shows = λ before told. let s = o.shows before told in record {
    between = s.between;
    asks = s.asks;
    cores_numbered = s.cores_numbered;
    named = s.named;
    named_is = s.named_is;
    over = s.over;
    cores = s.cores;
    tries = s.tries;
    stands = record { brave = s.stands.brave; iar = iar; ar = inl settled };
  };
}

module _ (w : Frame) (more : List Line) (start : ℕ) (used : ℕ) (entries : List Learned) (state : State) (cores : ℕ) (e : Evidence)
    (iar : IarIsOver w.asked.causes e)
    (t : FollowsTry w more question.Ar (present (own_selector w) ∷ []) start entries state cores (AtIar used) e) where
  pub ar_refuted : IsRefuted state (own_scope w) (present (own_selector w) ∷ [])
      → FollowsOpen w (line.Done how.Refuted None ∷ try_lines question.Ar (present (own_selector w) ∷ []) entries more) state cores AtEnd
      (record e { ar_refuted = true })
  ar_refuted r = opens_done w more question.Ar (present (own_selector w) ∷ []) start entries state cores (AtIar used) e t how.Refuted
      (record e { ar_refuted = true }) AtEnd (λ x. absurd (cc)) refl refl refl
      (λ before told full a same s. (
        after_ar_refuted w e (length entries) (lines_on w more before) full s.tries a,
        record {
          brave = brave_stays w e (record e { ar_refuted = true }) question.Ar (present (own_selector w) ∷ []) how.Refuted (length entries)
              (lines_on w more before) full a refl s.stands.brave;
          iar = iar;
          ar = inl refl;
        },
      )) (follows_refuted w more question.Ar (present (own_selector w) ∷ []) start entries state cores (AtIar used) e t r)

  pub ar_spent : (IsRefuted state (own_scope w) (present (own_selector w) ∷ []) → ⊥) → start + length entries ≡ w.start.budget
      → FollowsOpen w (line.Done how.Spent None ∷ try_lines question.Ar (present (own_selector w) ∷ []) entries more) state cores AtEnd e
  ar_spent unrefuted whole = opens_done w more question.Ar (present (own_selector w) ∷ []) start entries state cores (AtIar used) e t how.Spent
      e AtEnd (λ x. absurd (cc)) refl refl refl
      (λ before told full a same s. (
        after_ar_spent w e (length entries) (lines_on w more before) full s.tries a,
        record {
          brave = brave_stays w e e question.Ar (present (own_selector w) ∷ []) how.Spent (length entries) (lines_on w more before) full a refl
              s.stands.brave;
          iar = iar;
          ar = inr ((a.ended question.Ar (present (own_selector w) ∷ []) how.Spent).1 (inl (refl, refl, refl)));
        },
      )) (follows_spent w more question.Ar (present (own_selector w) ∷ []) start entries state cores (AtIar used) e t unrefuted whole (λ kb of easy. easy))

  pub ar_model : (kept dropped : List ℕ) → IsCoreOver w.better kept dropped → EachMeets w.asked.causes dropped → (e' : Evidence)
      → SeesCore w.asked.causes kept dropped e e'
      → FollowsOpen w (core_lines cores kept dropped (try_lines question.Ar (present (own_selector w) ∷ []) entries more)) state (cores + 1) AtEnd e'
  ar_model kept dropped c meets e' sees = opens_model w more question.Ar (present (own_selector w) ∷ []) start entries state cores (AtIar used) e t kept dropped
      c meets e' AtEnd sees
      (λ before told full a s. record {
        brave = brave_stays w e e' question.Ar (present (own_selector w) ∷ []) how.Model (length entries) (lines_on w more before) full a
            sees.only.brave_over s.stands.brave;
        iar = iar_stays w.asked.causes kept dropped e e' s.cores.all sees iar;
        ar = inl (decided_no (is_yes e' question.Ar) (is_no e' question.Ar) (or_left e'.drops_all (is_brave_no e') (sees.drops_all.1 (inr meets))));
      })
