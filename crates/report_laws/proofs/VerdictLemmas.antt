-- Each verdict that the lines of an answer settle is true.
use Rattle.std.proofs.Common.{◌≡◌, ℕ, ◌<◌, inl, inr, List, [], ◌∷◌, length, map, Contains, Bool, true, false, None, Some, IsTrue, IsFalse, true≢false, sym}
use Rattle.std.proofs.Common.{subst, ◌∙◌}
use Rattle.std.proofs.lemmas.Bool.{cases_Bool}
use Rattle.cq_meaning.specs.Conflicts.{In, AreConsistent, FactsEntail}
use Rattle.cq_meaning.specs.Candidates.{AreCauses}
use Rattle.cq_meaning.specs.Repairs.{IsChosen, IsAcyclic}
use Rattle.cq_meaning.proofs.Extension.{AreConsistent-mono}
use Rattle.cq_meaning.proofs.Single.{FactsEntail-mono}
use Rattle.cq_meaning.proofs.Decided.{conflicts_told}
use Rattle.cq_meaning.proofs.Chosen.{core_extends, chosen_exists}
use Rattle.clause_meaning.specs.Assignments.{IsTrueIn}
use Rattle.clause_meaning.proofs.Members.{Contains-map_cases}
use Rattle.clause_meaning.proofs.Truth.{refuted_is_false}
use Rattle.priority_graph.specs.Split.{has}
use Rattle.priority_graph.proofs.SplitLemmas.{has_true}
use Rattle.repair_clauses.specs.BaseClauses.{present, absent}
use Rattle.report_text.specs.declared.line.Line.{Line}
use Rattle.report_text.specs.declared.line.Line.TheVariants as line
use Rattle.report_text.specs.declared.line.Question.{Question}
use Rattle.report_text.specs.declared.line.Question.TheVariants as question
use Rattle.report_text.specs.declared.line.Verdict.{Verdict}
use Rattle.report_text.specs.declared.line.Verdict.TheVariants as verdict
use Rattle.report_text.specs.declared.line.How.TheVariants as how
use Rattle.report_rules.specs.Inputs.{Input, selector_of}
use Rattle.report_rules.specs.Told.{query_of, mode_of}
use Rattle.report_rules.specs.Tries.{asked, Ended}
use Rattle.report_rules.specs.Live.{Live}
use Rattle.report_rules.specs.Evidence.{IsShown, IsSettledAs, IsVerdict}
use Rattle.report_laws.specs.OpenAnswers.{IsRightAnswer}
use Rattle.report_laws.specs.OpenLaws.{RestsOnTruth}
use Rattle.report_laws.specs.Readings.{Reads, Holds, IsTrueVerdict}
use Rattle.report_laws.proofs.ListLemmas.{only_one}
use Rattle.repair_clauses.proofs.LiteralLemmas.{present_true, absent_true}
use Rattle.report_laws.proofs.CauseLemmas.{listed_within, cause_entails, entails_cause}
use Rattle.report_laws.proofs.LiveLemmas.{SatisfiesStart, satisfies_live, reading_exists, reading_starts, open_cores}

-- a test isn't both true and false
not_both : (b : Bool) → b ≡ true → b ≡ false → ⊥
not_both b t f = true≢false (sym t ∙ f)

-- ---- refuted tries

-- an assignment that satisfies what the answer starts with doesn't make the assumptions of a refuted try true
pub refuted_try : (input : Input) (before : List Line) → IsRightAnswer input before → (v : ℕ → Bool) → SatisfiesStart input before v
    → (q : Question) (assume : List ℕ) → Ended q assume how.Refuted before → ((l : ℕ) → Contains assume l → IsTrueIn v l) → ⊥
refuted_try input [] r v w q assume e t = e
refuted_try input (line.Ask candidate tuple causes members ∷ b) r v w q assume e t = e
refuted_try input (line.Try question assume' ∷ b) (r, rs) v w q assume e t = refuted_try input b rs v w q assume e t
refuted_try input (line.Learn number clause ∷ b) (r, rs) v w q assume e t = refuted_try input b rs v w q assume e t
refuted_try input (line.Core number kept dropped ∷ b) (r, rs) v w q assume e t = refuted_try input b rs v w q assume e t
refuted_try input (line.Done how.Refuted None ∷ b) (r, rs) v w q assume (inl (eq, ea, eh)) t =
    refuted_is_false (Live input.kb b) (Contains _) r.own v (satisfies_live input b rs v w) (λ l m. t l (subst (λ a. Contains a l) ea m))
refuted_try input (line.Done how.Refuted (Some n) ∷ b) (r, rs) v w q assume (inl (eq, ea, eh)) t = absurd r.own
refuted_try input (line.Done how.Model core ∷ b) (r, rs) v w q assume (inl (eq, ea, eh)) t = absurd (cc)
refuted_try input (line.Done how.Spent core ∷ b) (r, rs) v w q assume (inl (eq, ea, eh)) t = absurd (cc)
refuted_try input (line.Done h core ∷ b) (r, rs) v w q assume (inr e) t = refuted_try input b rs v w q assume e t
refuted_try input (line.Head axioms budget facts keep repairs version ∷ b) (r, rs) v w q assume e t = absurd r.own
refuted_try input (line.Cq origin query step ∷ b) (r, rs) v w q assume e t = absurd r.own
refuted_try input (line.Conflict facts rule member ∷ b) (r, rs) v w q assume e t = absurd r.own
refuted_try input (line.Forget clauses ∷ b) (r, rs) v w q assume e t = absurd r.own
refuted_try input (line.Answer brave ar iar cores names tuple ∷ b) (r, rs) v w q assume e t = absurd r.own
refuted_try input (line.End answers brave ar iar undecided ∷ b) (r, rs) v w q assume e t = absurd r.own

-- ---- the table of evidence

module _ (input : Input) (before : List Line) (right : IsRightAnswer input before) (rests : RestsOnTruth input before)
    (acyclic : IsAcyclic input.kb (mode_of before)) (cores : List ℕ) where
  -- what is said of the open candidate
  abbrev Says : Question → Type 0
  Says q = Holds input.kb (mode_of before) (query_of input before) (asked before).tuple q

  causes_are : AreCauses input.kb (query_of input before) (asked before).tuple (asked before).causes
  causes_are = rests.in_place.causes_are

  is_fact : (cause : List ℕ) → Contains (asked before).causes cause → (i : ℕ) → Contains cause i → i < length input.kb.facts
  is_fact = listed_within input.kb (query_of input before) (asked before).tuple (asked before).causes causes_are

  -- a set that has a whole cause entails the candidate
  entailed : (cause : List ℕ) → Contains (asked before).causes cause → (S : ℕ → Type 0) → ((i : ℕ) → Contains cause i → S i)
      → FactsEntail input.kb S (query_of input before) (asked before).tuple
  entailed = cause_entails input.kb (query_of input before) (asked before).tuple (asked before).causes causes_are

  -- a consistent set that entails it has a whole cause
  some_cause : (S : ℕ → Type 0) → AreConsistent input.kb S → FactsEntail input.kb S (query_of input before) (asked before).tuple → (cause : List ℕ)
      × Contains (asked before).causes cause × ((i : ℕ) → Contains cause i → S i)
  some_cause = entails_cause input.kb (query_of input before) (asked before).tuple (asked before).causes causes_are

  -- a core lies in a chosen repair, without what it drops
  repair_of : (n : ℕ) (kept dropped : List ℕ) → Contains before (line.Core n kept dropped)
      → (R : ℕ → Bool) × IsChosen input.kb (mode_of before) R × ((i : ℕ) → Contains kept i → In R i)
      × ((i : ℕ) → i < length input.kb.facts → Contains dropped i → IsFalse (R i))
  repair_of n kept dropped m =
      let t = conflicts_told input.kb in
      let w = core_extends input.kb (mode_of before) t.0 t.1 t.2 acyclic (has kept) (has dropped)
      (open_cores input before right rests.cores n kept dropped m) in
      (w.0, w.1, (λ i k. w.2 i (has_true kept i k)), (λ i l k. w.3 i l (has_true dropped i k)))

  -- there is a chosen repair
  some_chosen : (R : ℕ → Bool) × IsChosen input.kb (mode_of before) R
  some_chosen = let t = conflicts_told input.kb in chosen_exists input.kb (mode_of before) t.0 t.1 t.2 acyclic

  -- a reading of a chosen repair, and the clauses that it makes true
  read : (R : ℕ → Bool) → IsChosen input.kb (mode_of before) R
      → (v : ℕ → Bool) × Reads input before R v × SatisfiesStart input before v
      × (v (selector_of input.kb (asked before).candidate) ≡ false → FactsEntail input.kb (In R) (query_of input before) (asked before).tuple)
  read R c =
      let u = reading_exists input before rests.in_place R c.repair.consistent in
      (u.0, u.1, reading_starts input before right rests.in_place rests.learned R u.0 c u.1, u.2)

  brave_yes : IsShown input.kb before cores question.Brave verdict.Yes → Says question.Brave
  brave_yes (n, kept, dropped, names, m, (cause, k, within)) =
      let w = repair_of n kept dropped m in
      (w.0, w.1, entailed cause k (In w.0) (λ i l. w.2 i (within i l)))

  brave_no : IsShown input.kb before cores question.Brave verdict.No → ¬ Says question.Brave
  brave_no h (R, c, e) =
      let (cause, m, inside) = some_cause (In R) c.repair.consistent e in
      let u = read R c in
      refuted_try input before right u.0 u.2 question.Brave (map present cause) (h cause m) (λ l k.
      let (i, j, same) = Contains-map_cases present cause l k in
      subst (IsTrueIn u.0) same (present_true u.0 i (u.1.facts i (is_fact cause m i j) ∙ inside i j)))

  ar_yes : IsShown input.kb before cores question.Ar verdict.Yes → Says question.Ar
  ar_yes h R c =
      let u = read R c in
      let sel : ℕ = selector_of input.kb (asked before).candidate in
      elim (cases_Bool (u.0 sel)) [
        | inl t ↦ absurd (refuted_try input before right u.0 u.2 question.Ar (present sel ∷ []) h
            (λ l k. subst (IsTrueIn u.0) (only_one (present sel) l k) (present_true u.0 sel t)))
        | inr f ↦ u.3 f
      ]

  ar_no : IsShown input.kb before cores question.Ar verdict.No → ¬ Says question.Ar
  ar_no (n, kept, dropped, names, m, each) ar =
      let w = repair_of n kept dropped m in
      let (cause, k, inside) = some_cause (In w.0) w.1.repair.consistent (ar w.0 w.1) in
      let d = each cause k in
      not_both (w.0 d.0) (inside d.0 d.1) (w.3 d.0 (is_fact cause k d.0 d.1) d.2)

  iar_yes : IsShown input.kb before cores question.Iar verdict.Yes → Says question.Iar
  iar_yes (cause, m, each) = entailed cause m (λ i. (R : ℕ → Bool) → IsChosen input.kb (mode_of before) R → IsTrue (R i)) (λ i k R c.
      let u = read R c in
      elim (cases_Bool (R i)) [
        | inl t ↦ t
        | inr f ↦ absurd (refuted_try input before right u.0 u.2 question.Iar (absent i ∷ []) (each i k)
            (λ l j. subst (IsTrueIn u.0) (only_one (absent i) l j) (absent_true u.0 i (u.1.facts i (is_fact cause m i k) ∙ f))))
      ])

  iar_no : IsShown input.kb before cores question.Iar verdict.No → ¬ Says question.Iar
  iar_no each iar =
      let S : ℕ → Type 0 = (λ i. (R : ℕ → Bool) → IsChosen input.kb (mode_of before) R → IsTrue (R i)) in
      let (cause, m, inside) = some_cause S (AreConsistent-mono input.kb S (In some_chosen.0) (λ i h. h some_chosen.0 some_chosen.1)
      some_chosen.1.repair.consistent) iar in
      let d = each cause m in
      let w = repair_of d.0 d.1 d.2 d.4 in
      let i = d.5.0 in
      not_both (w.0 i) (inside i d.5.1 w.0 w.1) (w.3 i (is_fact cause m i d.5.1) d.5.2)

  -- ---- what gives it

  iar_gives_ar : Says question.Iar → Says question.Ar
  iar_gives_ar h R c = FactsEntail-mono input.kb (query_of input before) (asked before).tuple
      (λ i. (R : ℕ → Bool) → IsChosen input.kb (mode_of before) R → IsTrue (R i)) (In R) (λ i k. k R c) h

  ar_gives_brave : Says question.Ar → Says question.Brave
  ar_gives_brave h = (some_chosen.0, some_chosen.1, h some_chosen.0 some_chosen.1)

  yes_holds : (q : Question) → IsSettledAs input.kb before cores q verdict.Yes → Holds input.kb (mode_of before) (query_of input before) (asked before).tuple q
  yes_holds question.Iar s = iar_yes s
  yes_holds question.Ar (inl s) = ar_yes s
  yes_holds question.Ar (inr s) = iar_gives_ar (iar_yes s)
  yes_holds question.Brave (inl s) = brave_yes s
  yes_holds question.Brave (inr (inl s)) = ar_gives_brave (ar_yes s)
  yes_holds question.Brave (inr (inr s)) = ar_gives_brave (iar_gives_ar (iar_yes s))

  no_holds : (q : Question) → IsSettledAs input.kb before cores q verdict.No → ¬ Holds input.kb (mode_of before) (query_of input before) (asked before).tuple q
  no_holds question.Brave s h = brave_no s h
  no_holds question.Ar (inl s) h = ar_no s h
  no_holds question.Ar (inr s) h = brave_no s (ar_gives_brave h)
  no_holds question.Iar (inl s) h = iar_no s h
  no_holds question.Iar (inr (inl s)) h = ar_no s (iar_gives_ar h)
  no_holds question.Iar (inr (inr s)) h = brave_no s (ar_gives_brave (iar_gives_ar h))

  -- the verdict of a right answer line is true
  pub verdict_true : (q : Question) (said : Verdict) → IsVerdict input.kb before cores q said
      → IsTrueVerdict (Holds input.kb (mode_of before) (query_of input before) (asked before).tuple q) said
  verdict_true q verdict.Yes s = yes_holds q s
  verdict_true q verdict.No s = no_holds q s
  verdict_true q verdict.Undecided s = tt
