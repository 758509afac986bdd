-- Which tries an open answer may begin: brave of a cause that isn't done, IAR of a fact that isn't shown, and AR, each while its question is open.
use Rattle.std.proofs.Common.{◌≡◌, ℕ, ◌+◌, ◌<◌, ◌≤◌, inl, inr, List, [], ◌∷◌, map, length, Contains, true, false, refl, sym, subst, ap, ◌∙◌, arith}
use Rattle.std.proofs.Common.{true≢false}
use Rattle.std.specs.Prelude.{slice_index_or}
use Rattle.std.proofs.lemmas.List.Elements.{All-contains, Contains-get_or}
use Rattle.cq_meaning.proofs.Members.{Contains-nil, Contains-head}
use Rattle.clause_meaning.specs.Refutation.{IsWithin}
use Rattle.repair_clauses.specs.BaseClauses.{present, absent}
use Rattle.cdcl_core.specs.State.{State}
use Rattle.report_text.specs.declared.line.Line.{Line}
use Rattle.report_text.specs.declared.line.Line.TheVariants as line
use Rattle.report_text.specs.declared.line.Question.{Question}
use Rattle.report_text.specs.declared.line.Question.TheVariants as question
use Rattle.report_text.specs.declared.line.How.{How}
use Rattle.report_text.specs.declared.line.How.TheVariants as how
use Rattle.report_rules.specs.Inputs.{Input, selector_of}
use Rattle.report_rules.specs.Tries.{Asked, asked, Tried, Ended}
use Rattle.report_rules.specs.Evidence.{SomeCore, IsSettled}
use Rattle.report_rules.specs.TryRules.{TryIsRight, turn_of}
use Rattle.answer_evidence.specs.declared.evidence.Evidence.{Evidence}
use Rattle.answer_evidence.specs.FreeCauses.{IsFreeCause}
use Rattle.answer_evidence.specs.Shown.{is_undecided, verdict_in}
use Rattle.answer_desk.specs.Following.{Frame, own_selector, lines_on, IsBaseOf, IsFrame, AtBrave, AtIar, Shows, FollowsOpen, FollowsTry}
use Rattle.answer_desk.specs.Following.{IsNextInside}
use Rattle.answer_desk.proofs.FollowingVerdictLemmas.{present_one, left_open}
use Rattle.answer_desk.proofs.FollowingShowLemmas.{absent_one}
use Rattle.answer_desk.proofs.FollowingSearchLemmas.{told_by, next_try, try_begins}

-- ---- over the lines of an answer

-- a fact that isn't shown, of a cause of which no core drops a fact, had no IAR try
iar_new : (w : Frame) (e : Evidence) (lines : List Line) (used : ℕ) → Shows w e (AtIar used) lines → (place fact : ℕ) → place < length w.asked.causes
    → Contains (slice_index_or w.asked.causes place []) fact → slice_index_or e.cut.items place false ≡ false → ¬ Contains e.refuted fact
    → ¬ Contains e.spent fact → ¬ Tried question.Iar (absent fact ∷ []) lines
iar_new w e lines used s place fact below member uncut not_refuted not_spent t =
    let (h, ended) = s.over.ended question.Iar (absent fact ∷ []) t in go h ended
  where
    go : (h : How) → Ended question.Iar (absent fact ∷ []) h lines → ⊥
    go how.Refuted ended = not_refuted ((s.tries.refuted fact).1 ended)
    go how.Spent ended = not_spent ((s.tries.spent fact).1 ended)
    go how.Model ended =
        let (n, kept, dropped, named, c, (i, same, drop)) = s.over.shown question.Iar (absent fact ∷ []) ended in
        let equal : fact ≡ i = absent_one fact i same in
        true≢false (sym ((s.cores.cut place below).1 (n, kept, dropped, named, c, (fact, member, subst (Contains dropped) (sym equal) drop))) ∙ uncut)

module _ (w : Frame) (frame : IsFrame w) (e : Evidence) (lines : List Line) (input : Input) (of : IsBaseOf w input.kb) where
  some_fact : (cause : List ℕ) → Contains w.asked.causes cause → (i : ℕ) × Contains cause i
  some_fact cause m = go cause (All-contains (IsFreeCause w.better) w.asked.causes cause frame.causes_are m).some
    where
      go : (cause : List ℕ) → 0 < length cause → (i : ℕ) × Contains cause i
      go [] l = absurd (omega arith)
      go (f ∷ cause) l = (f, Contains-head f cause)

  module _ (done : List (List ℕ)) (used : ℕ) (s : Shows w e (AtBrave done used) lines) (cause : List ℕ) (member : Contains w.asked.causes cause)
      (fresh : ¬ Contains done cause) where
    not_tried : ¬ Tried question.Brave (map present cause) lines
    not_tried t = let (b, c, m, same) = s.stands.only question.Brave (map present cause) t in
        fresh (subst (Contains done) (sym (present_one cause c same)) m)

    no_core : (P : List ℕ → List ℕ → Type 0) → SomeCore lines [] P → ⊥
    no_core P (n, kept, dropped, inl x, c, p) = s.stands.none_named n x
    no_core P (n, kept, dropped, inr x, c, p) = Contains-nil n x

    brave_open : ¬ IsSettled input.kb lines [] question.Brave
    brave_open (inl (inl k)) = no_core (λ kept dropped. (c : List ℕ) × Contains (asked lines).causes c × IsWithin c kept) k
    brave_open (inl (inr (inl r))) = absurd (
        let x = s.stands.only question.Ar (present (selector_of input.kb (asked lines).candidate) ∷ [])
        (s.over.tried question.Ar (present (selector_of input.kb (asked lines).candidate) ∷ []) how.Refuted r) in
        let same : question.Ar ≡ question.Brave = x.0 in cc)
    brave_open (inl (inr (inr (c, m, all)))) =
        let (i, k) = some_fact c (subst (λ (x : Asked). Contains x.causes c) s.asks m) in
        absurd (
        let x = s.stands.only question.Iar (absent i ∷ []) (s.over.tried question.Iar (absent i ∷ []) how.Refuted (all i k)) in
        let same : question.Iar ≡ question.Brave = x.0 in cc
        )
    brave_open (inr all) = not_tried (s.over.tried question.Brave (map present cause) how.Refuted
        (all cause (subst (λ (x : Asked). Contains x.causes cause) (sym s.asks) member)))

    brave_right : TryIsRight input lines question.Brave (map present cause)
    brave_right = record {
      unsettled = brave_open;
      in_turn = λ q' a' t. subst (λ (q : Question). turn_of q ≤ turn_of question.Brave) (sym (s.stands.only q' a' t).0) (omega arith);
      new = not_tried;
      assumes = (cause, subst (λ (x : Asked). Contains x.causes cause) (sym s.asks) member, refl);
    }

  module _ (used : ℕ) (s : Shows w e (AtIar used) lines) where
    turn_before : (most : ℕ) → 1 ≤ most → (q' : Question) (a' : List ℕ) → Tried q' a' lines → turn_of q' ≤ most
    turn_before most l question.Brave a' t = omega arith
    turn_before most l question.Iar a' t = omega arith
    turn_before most l question.Ar a' t = absurd (s.stands.no_ar a' t)

    still_open : (q : Question) → is_undecided (verdict_in e q) ≡ true → ¬ IsSettled input.kb lines [] q
    still_open = left_open w e lines s.asks s.cores s.tries s.over input.kb of.facts [] (λ n m. absurd (Contains-nil n m)) s.stands.brave

    module _ (place fact : ℕ) (below : place < length w.asked.causes) (member : Contains (slice_index_or w.asked.causes place []) fact)
        (uncut : slice_index_or e.cut.items place false ≡ false) (not_refuted : ¬ Contains e.refuted fact) (not_spent : ¬ Contains e.spent fact) where
      iar_right : (cause : List ℕ) → Contains w.asked.causes cause → Contains cause fact → is_undecided (verdict_in e question.Iar) ≡ true
          → TryIsRight input lines question.Iar (absent fact ∷ [])
      iar_right cause m k unsettled = record {
        unsettled = still_open question.Iar unsettled;
        in_turn = turn_before (turn_of question.Iar) (omega arith);
        new = iar_new w e lines used s place fact below member uncut not_refuted not_spent;
        assumes = (cause, fact, subst (λ (x : Asked). Contains x.causes cause) (sym s.asks) m, k, refl);
      }

    ar_right : is_undecided (verdict_in e question.Ar) ≡ true → TryIsRight input lines question.Ar (present (own_selector w) ∷ [])
    ar_right unsettled = record {
      unsettled = still_open question.Ar unsettled;
      in_turn = turn_before (turn_of question.Ar) (omega arith);
      new = s.stands.no_ar (present (own_selector w) ∷ []);
      assumes = ap (λ (n : ℕ). present n ∷ []) (ap (λ (n : ℕ). n + w.asked.candidate) of.facts
          ∙ ap (λ (x : Asked). selector_of input.kb x.candidate) (sym s.asks));
    }

-- ---- the next line is that of the try, and the answer goes on in it

module _ (w : Frame) (more : List Line) (state : State) (cores : ℕ) (e : Evidence) where
  -- a cause whose brave try wasn't yet
  module _ (done : List (List ℕ)) (used : ℕ) (o : FollowsOpen w more state cores (AtBrave done used) e) (cause : List ℕ)
      (member : Contains w.asked.causes cause) (fresh : ¬ Contains done cause) where
    pub brave_line : IsNextInside w more (line.Try question.Brave (map present cause))
    brave_line = next_try w more state cores (AtBrave done used) e o question.Brave (map present cause) (λ input before of told.
        brave_right w o.follows.frame e (lines_on w more before) input of done used (o.shows before (told_by w input.kb of before told)) cause member fresh)

    pub brave_begins : FollowsTry w more question.Brave (map present cause) used [] state cores (AtBrave done used) e
    brave_begins = try_begins w more state cores (AtBrave done used) e o question.Brave (map present cause) used brave_line
        (λ before told t. let (b, c, m, same) = (o.shows before told).stands.only question.Brave (map present cause) t in
        fresh (subst (Contains done) (sym (present_one cause c same)) m)) (λ before told. (o.shows before told).stands.used_is)

  module _ (used : ℕ) (o : FollowsOpen w more state cores (AtIar used) e) where
    -- a fact of a cause of which no core drops a fact, whose IAR try wasn't yet
    module _ (place fact : ℕ) (below : place < length w.asked.causes) (member : Contains (slice_index_or w.asked.causes place []) fact)
        (uncut : slice_index_or e.cut.items place false ≡ false) (not_refuted : ¬ Contains e.refuted fact) (not_spent : ¬ Contains e.spent fact)
        (unsettled : is_undecided (verdict_in e question.Iar) ≡ true) where
      pub iar_line : IsNextInside w more (line.Try question.Iar (absent fact ∷ []))
      iar_line = next_try w more state cores (AtIar used) e o question.Iar (absent fact ∷ []) (λ input before of told.
          iar_right w o.follows.frame e (lines_on w more before) input of used (o.shows before (told_by w input.kb of before told)) place fact below member
          uncut not_refuted not_spent (slice_index_or w.asked.causes place []) (Contains-get_or w.asked.causes place [] below) member unsettled)

      pub iar_begins : FollowsTry w more question.Iar (absent fact ∷ []) used [] state cores (AtIar used) e
      iar_begins = try_begins w more state cores (AtIar used) e o question.Iar (absent fact ∷ []) used iar_line
          (λ before told. iar_new w e (lines_on w more before) used (o.shows before told) place fact below member uncut not_refuted
          not_spent) (λ before told. (o.shows before told).stands.used_is)

    -- the candidate, at last
    module _ (unsettled : is_undecided (verdict_in e question.Ar) ≡ true) where
      pub ar_line : IsNextInside w more (line.Try question.Ar (present (own_selector w) ∷ []))
      ar_line = next_try w more state cores (AtIar used) e o question.Ar (present (own_selector w) ∷ []) (λ input before of told.
          ar_right w o.follows.frame e (lines_on w more before) input of used (o.shows before (told_by w input.kb of before told)) unsettled)

      pub ar_begins : FollowsTry w more question.Ar (present (own_selector w) ∷ []) 0 [] state cores (AtIar used) e
      ar_begins = try_begins w more state cores (AtIar used) e o question.Ar (present (own_selector w) ∷ []) 0 ar_line
          (λ before told. (o.shows before told).stands.no_ar (present (own_selector w) ∷ [])) (λ before told. (o.shows before told).stands.none_used)
