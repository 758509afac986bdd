-- The tests tell what the lines of an open answer show.
use Rattle.std.proofs.Common.{◌≡◌, ℕ, ◌⊎◌, inl, inr, List, [], ◌∷◌, ◌++◌, map, Contains, Bool, true≢false, not, ◌&&◌, ◌||◌, slice_get, refl, sym, subst, ap}
use Rattle.std.proofs.Common.{◌∙◌}
use Rattle.std.specs.List.{list_any, list_all}
use Rattle.std.specs.Str.{bytes_eq}
use Rattle.std.proofs.lemmas.List.Elements.{Contains-append_left, Contains-append_right}
use Rattle.cq_meaning.proofs.Listed.{append_cases}
use Rattle.clause_meaning.specs.Refutation.{IsWithin}
use Rattle.priority_graph.specs.Split.{has}
use Rattle.repair_clauses.specs.BaseClauses.{present, absent}
use Rattle.report_text.specs.declared.line.Line.{Line}
use Rattle.report_text.specs.declared.line.Line.TheVariants as line
use Rattle.report_text.specs.declared.line.Question.{Question}
use Rattle.report_text.specs.declared.line.Question.TheVariants as question
use Rattle.report_text.specs.declared.line.Verdict.{Verdict}
use Rattle.report_text.specs.declared.line.Verdict.TheVariants as verdict
use Rattle.report_text.specs.declared.line.How.{How}
use Rattle.report_text.specs.declared.line.How.TheVariants as how
use Rattle.report_rules.specs.Inputs.{Input, selector_of}
use Rattle.report_rules.specs.Tries.{asked, Ended, NamesCore, question_of}
use Rattle.report_rules.specs.TryRules.{MayAssume}
use Rattle.report_rules.specs.Live.{same_question}
use Rattle.report_rules.specs.Evidence.{SomeCore, Meets, IsShown, IsSettledAs, IsSettled, IsSpent, IsVerdict}
use Rattle.report_rules.specs.Accepted.{AreRight}
use Rattle.report_laws.specs.Standing.{Core, cores_of, EndedTry, ended_of, named_of}
use Rattle.report_laws.specs.Settling.{cores_at, evidence_of, same_how, is_ended, has_ended, keeps, drops, is_shown, is_settled_as, is_settled, is_spent}
use Rattle.report_laws.specs.Settling.{is_verdict, TestsTellEvidence}
use Rattle.report_laws.proofs.StandingLemmas.{ended_listed, named_listed, cores_listed}
use Rattle.report_laws.proofs.TestLemmas.{Tells, tells_none, tells_like, tells_either, tells_both, tells_not, tells_any, tells_all, tells_has, tells_same}
use Rattle.report_laws.proofs.TestLemmas.{Contains-filter_map, filter_map-Contains}
use Rattle.report_laws.proofs.EasyLemmas.{try_assumes}

pub tells_question : (p q : Question) → Tells (same_question p q) (p ≡ q)
tells_question question.Brave question.Brave = ((λ e. refl), (λ e. refl))
tells_question question.Iar question.Iar = ((λ e. refl), (λ e. refl))
tells_question question.Ar question.Ar = ((λ e. refl), (λ e. refl))
tells_question question.Brave question.Iar = ((λ e. absurd (true≢false (sym e))), (λ e. cc e))
tells_question question.Brave question.Ar = ((λ e. absurd (true≢false (sym e))), (λ e. cc e))
tells_question question.Iar question.Brave = ((λ e. absurd (true≢false (sym e))), (λ e. cc e))
tells_question question.Iar question.Ar = ((λ e. absurd (true≢false (sym e))), (λ e. cc e))
tells_question question.Ar question.Brave = ((λ e. absurd (true≢false (sym e))), (λ e. cc e))
tells_question question.Ar question.Iar = ((λ e. absurd (true≢false (sym e))), (λ e. cc e))

tells_how : (g h : How) → Tells (same_how g h) (g ≡ h)
tells_how how.Model how.Model = ((λ e. refl), (λ e. refl))
tells_how how.Refuted how.Refuted = ((λ e. refl), (λ e. refl))
tells_how how.Spent how.Spent = ((λ e. refl), (λ e. refl))
tells_how how.Model how.Refuted = ((λ e. absurd (true≢false (sym e))), (λ e. cc e))
tells_how how.Model how.Spent = ((λ e. absurd (true≢false (sym e))), (λ e. cc e))
tells_how how.Refuted how.Model = ((λ e. absurd (true≢false (sym e))), (λ e. cc e))
tells_how how.Refuted how.Spent = ((λ e. absurd (true≢false (sym e))), (λ e. cc e))
tells_how how.Spent how.Model = ((λ e. absurd (true≢false (sym e))), (λ e. cc e))
tells_how how.Spent how.Refuted = ((λ e. absurd (true≢false (sym e))), (λ e. cc e))

abbrev ended_so : Question → List ℕ → How → EndedTry
ended_so q assume how = record { question = q; assume = assume; how = how }

-- ---- tries

pub tells_ended : (b : List Line) (q : Question) (a : List ℕ) (h : How) → Tells (is_ended (ended_of b) q a h) (Ended q a h b)
tells_ended b q a h = tells_like (is_ended (ended_of b) q a h)
    (tells_any (λ (t : EndedTry). same_question t.question q && (bytes_eq t.assume a && same_how t.how h))
    (λ (t : EndedTry). (t.question ≡ q) × ((t.assume ≡ a) × (t.how ≡ h)))
    (λ t. tells_both (same_question t.question q) (bytes_eq t.assume a && same_how t.how h) (tells_question t.question q)
    (tells_both (bytes_eq t.assume a) (same_how t.how h) (tells_same t.assume a) (tells_how t.how h))) (ended_of b))
    to from
  where
    to : (t : EndedTry) × Contains (ended_of b) t × ((t.question ≡ q) × ((t.assume ≡ a) × (t.how ≡ h))) → Ended q a h b
    to (t, m, (x, (y, z))) = (ended_listed b q a h).1 (subst (Contains (ended_of b)) (same t.question t.assume t.how x y z) m)
      where
        same : (p : Question) (xs : List ℕ) (g : How) → p ≡ q → xs ≡ a → g ≡ h → ended_so p xs g ≡ ended_so q a h
        same p xs g x y z = ap (λ (p : Question). ended_so p xs g) x ∙ ap (λ (xs : List ℕ). ended_so q xs g) y ∙ ap (λ (g : How). ended_so q a g) z

    from : Ended q a h b → (t : EndedTry) × Contains (ended_of b) t × ((t.question ≡ q) × ((t.assume ≡ a) × (t.how ≡ h)))
    from w = (ended_so q a h, (ended_listed b q a h).0 w, (refl, (refl, refl)))

-- a try of this answer that has ended had assumptions that it might have
pub ended_assumes : (input : Input) (b : List Line) → AreRight input b → (q : Question) (a : List ℕ) (h : How) → Ended q a h b
    → MayAssume input.kb (asked b) q a
ended_assumes input [] r q a h w = absurd w
ended_assumes input (line.Ask candidate tuple causes members ∷ b) r q a h w = absurd w
ended_assumes input (line.Done how' core ∷ b) (r, rs) q a h (inl (x, y, z)) =
    subst (λ (p : Question). MayAssume input.kb (asked b) p a) x (subst (MayAssume input.kb (asked b) (question_of b)) y (try_assumes input b rs r.order))
ended_assumes input (line.Done how' core ∷ b) (r, rs) q a h (inr w) = ended_assumes input b rs q a h w
ended_assumes input (line.Head axioms budget facts keep repairs version ∷ b) (r, rs) q a h w = ended_assumes input b rs q a h w
ended_assumes input (line.Cq o query step ∷ b) (r, rs) q a h w = ended_assumes input b rs q a h w
ended_assumes input (line.Conflict facts rule member ∷ b) (r, rs) q a h w = ended_assumes input b rs q a h w
ended_assumes input (line.Try question assume ∷ b) (r, rs) q a h w = ended_assumes input b rs q a h w
ended_assumes input (line.Learn number clause ∷ b) (r, rs) q a h w = ended_assumes input b rs q a h w
ended_assumes input (line.Core number kept dropped ∷ b) (r, rs) q a h w = ended_assumes input b rs q a h w
ended_assumes input (line.Forget clauses ∷ b) (r, rs) q a h w = ended_assumes input b rs q a h w
ended_assumes input (line.Answer brave ar iar cores names tuple ∷ b) (r, rs) q a h w = ended_assumes input b rs q a h w
ended_assumes input (line.End answers brave ar iar undecided ∷ b) (r, rs) q a h w = ended_assumes input b rs q a h w

-- ---- cores

module _ (input : Input) (b : List Line) (r : AreRight input b) (numbers : List ℕ) where
  abbrev all : List Core
  all = cores_at (cores_of b) (named_of b ++ numbers)

  -- some core of the answer is so where one of the list is
  tells_core : (p : Core → Bool) (P : List ℕ → List ℕ → Type 0) → ((c : Core) → Tells (p c) (P c.kept c.dropped))
      → Tells (list_any p (cores_at (cores_of b) (named_of b ++ numbers))) (SomeCore b numbers P)
  tells_core p P t = tells_like (list_any p (cores_at (cores_of b) (named_of b ++ numbers)))
      (tells_any p (λ (c : Core). P c.kept c.dropped) t (cores_at (cores_of b) (named_of b ++ numbers))) to from
    where
      to : (c : Core) × Contains (cores_at (cores_of b) (named_of b ++ numbers)) c × P c.kept c.dropped → SomeCore b numbers P
      to (c, m, w) =
          let (n, k, e) = Contains-filter_map (slice_get (cores_of b)) (named_of b ++ numbers) c m in (
            n,
            c.kept,
            c.dropped,
            elim (append_cases (named_of b) numbers n k) [ inl l ↦ inl ((named_listed b n).1 l) | inr l ↦ inr l ],
            (cores_listed input b r n c.kept c.dropped).1 e,
            w,
          )

      from : SomeCore b numbers P → (c : Core) × Contains (cores_at (cores_of b) (named_of b ++ numbers)) c × P c.kept c.dropped
      from (n, kept, dropped, named, m, w) = (
        record { kept = kept; dropped = dropped },
        filter_map-Contains (slice_get (cores_of b)) (named_of b ++ numbers) n (record { kept = kept; dropped = dropped }) (there named)
            ((cores_listed input b r n kept dropped).0 m),
        w,
      )
        where
          there : NamesCore b n ⊎ Contains numbers n → Contains (named_of b ++ numbers) n
          there (inl k) = Contains-append_left (named_of b) numbers n ((named_listed b n).0 k)
          there (inr k) = Contains-append_right (named_of b) numbers n k

  tells_keeps : (c : Core) (cause : List ℕ) → Tells (keeps c cause) (IsWithin cause c.kept)
  tells_keeps c cause = tells_all (has c.kept) (Contains c.kept) (tells_has c.kept) cause

  tells_drops : (c : Core) (cause : List ℕ) → Tells (drops c cause) (Meets cause c.dropped)
  tells_drops c cause = tells_any (has c.dropped) (Contains c.dropped) (tells_has c.dropped) cause

  -- ---- questions

  shown : (q : Question) (said : Verdict) → Tells (is_shown (evidence_of input.kb b numbers) q said) (IsShown input.kb b numbers q said)
  shown question.Brave verdict.Yes = tells_core (λ c. list_any (keeps c) (asked b).causes)
      (λ kept dropped. (cause : List ℕ) × Contains (asked b).causes cause × IsWithin cause kept)
      (λ c. tells_any (keeps c) (λ (cause : List ℕ). IsWithin cause c.kept) (tells_keeps c) (asked b).causes)
  shown question.Brave verdict.No = tells_all (λ (cause : List ℕ). is_ended (ended_of b) question.Brave (map present cause) how.Refuted)
      (λ (cause : List ℕ). Ended question.Brave (map present cause) how.Refuted b)
      (λ cause. tells_ended b question.Brave (map present cause) how.Refuted) (asked b).causes
  shown question.Ar verdict.Yes = tells_ended b question.Ar (present (selector_of input.kb (asked b).candidate) ∷ []) how.Refuted
  shown question.Ar verdict.No = tells_core (λ c. list_all (drops c) (asked b).causes)
      (λ kept dropped. (cause : List ℕ) → Contains (asked b).causes cause → Meets cause dropped)
      (λ c. tells_all (drops c) (λ (cause : List ℕ). Meets cause c.dropped) (tells_drops c) (asked b).causes)
  shown question.Iar verdict.Yes = tells_any (λ (cause : List ℕ). list_all (λ i. is_ended (ended_of b) question.Iar (absent i ∷ []) how.Refuted) cause)
      (λ (cause : List ℕ). (i : ℕ) → Contains cause i → Ended question.Iar (absent i ∷ []) how.Refuted b)
      (λ cause. tells_all (λ i. is_ended (ended_of b) question.Iar (absent i ∷ []) how.Refuted) (λ i. Ended question.Iar (absent i ∷ []) how.Refuted b)
      (λ i. tells_ended b question.Iar (absent i ∷ []) how.Refuted) cause) (asked b).causes
  shown question.Iar verdict.No = tells_all (λ (cause : List ℕ). list_any (λ c. drops c cause) (cores_at (cores_of b) (named_of b ++ numbers)))
      (λ (cause : List ℕ). SomeCore b numbers (λ kept dropped. Meets cause dropped))
      (λ cause. tells_core (λ c. drops c cause) (λ kept dropped. Meets cause dropped) (λ c. tells_drops c cause)) (asked b).causes
  shown question.Brave verdict.Undecided = tells_none
  shown question.Ar verdict.Undecided = tells_none
  shown question.Iar verdict.Undecided = tells_none

  abbrev test : Question → Verdict → Bool
  test q said = is_shown (evidence_of input.kb b numbers) q said

  settled_as : (q : Question) (said : Verdict) → Tells (is_settled_as (evidence_of input.kb b numbers) q said) (IsSettledAs input.kb b numbers q said)
  settled_as question.Iar verdict.Yes = shown question.Iar verdict.Yes
  settled_as question.Ar verdict.Yes = tells_either (test question.Ar verdict.Yes) (test question.Iar verdict.Yes) (shown question.Ar verdict.Yes)
      (shown question.Iar verdict.Yes)
  settled_as question.Brave verdict.Yes = tells_either (test question.Brave verdict.Yes) (test question.Ar verdict.Yes || test question.Iar verdict.Yes)
      (shown question.Brave verdict.Yes)
      (tells_either (test question.Ar verdict.Yes) (test question.Iar verdict.Yes) (shown question.Ar verdict.Yes) (shown question.Iar verdict.Yes))
  settled_as question.Brave verdict.No = shown question.Brave verdict.No
  settled_as question.Ar verdict.No = tells_either (test question.Ar verdict.No) (test question.Brave verdict.No) (shown question.Ar verdict.No)
      (shown question.Brave verdict.No)
  settled_as question.Iar verdict.No = tells_either (test question.Iar verdict.No) (test question.Ar verdict.No || test question.Brave verdict.No)
      (shown question.Iar verdict.No)
      (tells_either (test question.Ar verdict.No) (test question.Brave verdict.No) (shown question.Ar verdict.No) (shown question.Brave verdict.No))
  settled_as question.Brave verdict.Undecided = tells_none
  settled_as question.Ar verdict.Undecided = tells_none
  settled_as question.Iar verdict.Undecided = tells_none

  settled : (q : Question) → Tells (is_settled (evidence_of input.kb b numbers) q) (IsSettled input.kb b numbers q)
  settled q = tells_either (is_settled_as (evidence_of input.kb b numbers) q verdict.Yes) (is_settled_as (evidence_of input.kb b numbers) q verdict.No)
      (settled_as q verdict.Yes) (settled_as q verdict.No)

  -- ---- spent

  -- an IAR try of this answer is of one absent literal
  tells_spent_iar : Tells (has_ended (ended_of b) question.Iar how.Spent) ((i : ℕ) × Ended question.Iar (absent i ∷ []) how.Spent b)
  tells_spent_iar = tells_like (has_ended (ended_of b) question.Iar how.Spent)
      (tells_any (λ (t : EndedTry). same_question t.question question.Iar && same_how t.how how.Spent)
      (λ (t : EndedTry). (t.question ≡ question.Iar) × (t.how ≡ how.Spent))
      (λ t. tells_both (same_question t.question question.Iar) (same_how t.how how.Spent) (tells_question t.question question.Iar)
      (tells_how t.how how.Spent)) (ended_of b))
      to from
    where
      to : (t : EndedTry) × Contains (ended_of b) t × ((t.question ≡ question.Iar) × (t.how ≡ how.Spent)) → (i : ℕ)
          × Ended question.Iar (absent i ∷ []) how.Spent b
      to (t, m, (x, z)) = found (ended_assumes input b r question.Iar t.assume how.Spent w)
        where
          same : (p : Question) (g : How) → p ≡ question.Iar → g ≡ how.Spent → ended_so p t.assume g ≡ ended_so question.Iar t.assume how.Spent
          same p g x z = ap (λ (p : Question). ended_so p t.assume g) x ∙ ap (λ (g : How). ended_so question.Iar t.assume g) z

          w : Ended question.Iar t.assume how.Spent b
          w = (ended_listed b question.Iar t.assume how.Spent).1 (subst (Contains (ended_of b)) (same t.question t.how x z) m)

          found : (cause : List ℕ) × (i : ℕ) × Contains (asked b).causes cause × Contains cause i × (t.assume ≡ absent i ∷ []) → (i : ℕ)
              × Ended question.Iar (absent i ∷ []) how.Spent b
          found (cause, i, k, l, e) = (i, subst (λ (xs : List ℕ). Ended question.Iar xs how.Spent b) e w)

      from : (i : ℕ) × Ended question.Iar (absent i ∷ []) how.Spent b → (t : EndedTry) × Contains (ended_of b) t
          × ((t.question ≡ question.Iar) × (t.how ≡ how.Spent))
      from (i, w) = (ended_so question.Iar (absent i ∷ []) how.Spent, (ended_listed b question.Iar (absent i ∷ []) how.Spent).0 w, (refl, refl))

  abbrev brave_so : How → List ℕ → Bool
  brave_so h cause = is_ended (ended_of b) question.Brave (map present cause) h

  spent : (q : Question) → Tells (is_spent (evidence_of input.kb b numbers) q) (IsSpent input.kb b numbers q)
  spent question.Brave = tells_both (list_all (λ (cause : List ℕ). brave_so how.Refuted cause || brave_so how.Spent cause) (asked b).causes)
      (list_any (brave_so how.Spent) (asked b).causes)
      (tells_all (λ (cause : List ℕ). brave_so how.Refuted cause || brave_so how.Spent cause)
      (λ (cause : List ℕ). Ended question.Brave (map present cause) how.Refuted b ⊎ Ended question.Brave (map present cause) how.Spent b)
      (λ cause. tells_either (brave_so how.Refuted cause) (brave_so how.Spent cause) (tells_ended b question.Brave (map present cause) how.Refuted)
      (tells_ended b question.Brave (map present cause) how.Spent)) (asked b).causes)
      (tells_any (brave_so how.Spent) (λ (cause : List ℕ). Ended question.Brave (map present cause) how.Spent b)
      (λ cause. tells_ended b question.Brave (map present cause) how.Spent) (asked b).causes)
  spent question.Ar = tells_ended b question.Ar (present (selector_of input.kb (asked b).candidate) ∷ []) how.Spent
  spent question.Iar = tells_both (list_all (λ (cause : List ℕ). list_any (λ c. drops c cause) all || list_any
      (λ i. is_ended (ended_of b) question.Iar (absent i ∷ []) how.Spent) cause) (asked b).causes) (has_ended (ended_of b) question.Iar how.Spent)
      (tells_all (λ (cause : List ℕ). list_any (λ c. drops c cause) all || list_any (λ i. is_ended (ended_of b) question.Iar (absent i ∷ []) how.Spent) cause)
      (λ (cause : List ℕ). SomeCore b numbers (λ kept dropped. Meets cause dropped)
      ⊎ ((i : ℕ) × Contains cause i × Ended question.Iar (absent i ∷ []) how.Spent b))
      (λ cause. tells_either (list_any (λ c. drops c cause) all) (list_any (λ i. is_ended (ended_of b) question.Iar (absent i ∷ []) how.Spent) cause)
      (tells_core (λ c. drops c cause) (λ kept dropped. Meets cause dropped) (λ c. tells_drops c cause))
      (tells_any (λ i. is_ended (ended_of b) question.Iar (absent i ∷ []) how.Spent) (λ i. Ended question.Iar (absent i ∷ []) how.Spent b)
      (λ i. tells_ended b question.Iar (absent i ∷ []) how.Spent) cause)) (asked b).causes)
      tells_spent_iar

  verdicts : (q : Question) (said : Verdict) → Tells (is_verdict (evidence_of input.kb b numbers) q said) (IsVerdict input.kb b numbers q said)
  verdicts q verdict.Yes = settled_as q verdict.Yes
  verdicts q verdict.No = settled_as q verdict.No
  verdicts q verdict.Undecided = tells_both (not (is_settled (evidence_of input.kb b numbers) q)) (is_spent (evidence_of input.kb b numbers) q)
      (tells_not (is_settled (evidence_of input.kb b numbers) q) (settled q)) (spent q)

pub tests_tell : TestsTellEvidence
tests_tell input b r numbers = record {
  shown = shown input b r numbers;
  settled_as = settled_as input b r numbers;
  settled = settled input b r numbers;
  spent = spent input b r numbers;
  verdict = verdicts input b r numbers;
}
