-- The last line of a report counts the answers with a question left open.
use Rattle.std.proofs.Common.{◌≡◌, ℕ, suc, ◌<◌, ◌⊎◌, inl, inr, List, [], ◌∷◌, ◌++◌, Bool, true, false, true≢false, Contains, cond, refl, sym, subst}
use Rattle.std.proofs.Common.{ap, ◌∙◌, arith}
use Rattle.std.specs.Prelude.{◌≢◌, reverse}
use Rattle.std.proofs.lemmas.List.{reverse-append, reverse-reverse}
use Rattle.std.proofs.lemmas.List.Elements.{Contains-append_left, Contains-push_cases}
use Rattle.cq_meaning.proofs.Members.{Contains-cases, Contains-head, Contains-later, Contains-nil}
use Rattle.cq_terms.specs.Knowledge.{Knowledge}
use Rattle.cq_terms.specs.Query.{Query}
use Rattle.cq_terms.specs.declared.axioms.Axiom.{Axiom}
use Rattle.report_text.specs.declared.line.Line.{Line}
use Rattle.report_text.specs.declared.line.Line.TheVariants as line
use Rattle.report_text.specs.declared.line.Origin.{Origin}
use Rattle.report_rules.specs.declared.place.Place.{Place}
use Rattle.report_rules.specs.declared.place.Place.TheVariants.{AfterForget, AtEnd, InTry, AfterCore}
use Rattle.report_rules.specs.Accepted.{AreRight}
use Rattle.report_rules.specs.Inputs.{OneQuery, report_on}
use Rattle.report_rules.specs.Order.{AreBlocksOver, IsBetweenAnswers, MayCome, MayHaveBlock, place_of}
use Rattle.report_rules.specs.Told.{count_answers}
use Rattle.report_laws.specs.Summaries.{any_open}
use Rattle.report_laws.proofs.ListLemmas.{Contains-reverse}
use Rattle.cqapri_cli.specs.ReportLaws.{OpenIsCounted}
use Rattle.cqapri_cli.specs.OpenAnswers.{IsOpenAnswer, LeaveOpen}

-- ---- in a report on one query no line follows the end

not_over : (axioms : List Axiom) (p : Place) → AreBlocksOver OneQuery axioms p → p ≡ AtEnd → ⊥
not_over axioms AtEnd h e = h
not_over axioms _ h e = absurd (cc)

not_between : (axioms : List Axiom) (p : Place) → IsBetweenAnswers OneQuery axioms p → p ≡ AtEnd → ⊥
not_between axioms AtEnd h e = h
not_between axioms _ h e = absurd (cc)

not_block : (axioms : List Axiom) (p : Place) (o : Origin) → MayHaveBlock OneQuery axioms p o → p ≡ AtEnd → ⊥
not_block axioms AtEnd o h e = h
not_block axioms _ o h e = absurd (cc)

not_ask : (axioms : List Axiom) (p : Place) → (p ≡ AfterForget) ⊎ IsBetweenAnswers OneQuery axioms p → p ≡ AtEnd → ⊥
not_ask axioms p (inl f) e = absurd (cc)
not_ask axioms p (inr h) e = not_between axioms p h e

not_done : (p : Place) → (p ≡ InTry) ⊎ (p ≡ AfterCore) → p ≡ AtEnd → ⊥
not_done p (inl f) e = absurd (cc)
not_done p (inr f) e = absurd (cc)

last_of_all : (axioms : List Axiom) (p : Place) (l : Line) → MayCome OneQuery axioms p l → p ≡ AtEnd → ⊥
last_of_all axioms p (line.Head a budget facts keep repairs version) m e = absurd (cc)
last_of_all axioms p (line.Cq o query step) m e = not_block axioms p o m e
last_of_all axioms p (line.Conflict facts rule member) m e = not_over axioms p m e
last_of_all axioms p (line.Ask candidate tuple causes members) m e = not_ask axioms p m e
last_of_all axioms p (line.Try question assume) m e = absurd (cc)
last_of_all axioms p (line.Learn number clause) m e = absurd (cc)
last_of_all axioms p (line.Core number kept dropped) m e = absurd (cc)
last_of_all axioms p (line.Done how core) m e = not_done p m e
last_of_all axioms p (line.Forget clauses) m e = not_between axioms p m e
last_of_all axioms p (line.Answer brave ar iar cores names tuple) m e = absurd (cc)
last_of_all axioms p (line.End answers brave ar iar undecided) m e = not_between axioms p m e

-- ---- the count of open answers

-- one more answer
one_open : (t : Bool) (n : ℕ) → t ≡ true → 0 < cond t (suc n) n
one_open true n e = omega arith
one_open false n e = absurd (true≢false (sym e))

still_open : (t : Bool) (n : ℕ) → 0 < n → 0 < cond t (suc n) n
still_open true n h = omega arith
still_open false n h = h

open_cases : (t : Bool) (n : ℕ) → 0 < cond t (suc n) n → (t ≡ true) ⊎ (0 < n)
open_cases true n h = inl refl
open_cases false n h = inr h

-- an open answer one line further
later_open : (x : Line) (b : List Line) → LeaveOpen b → LeaveOpen (x ∷ b)
later_open x b (l, m, w) = (l, Contains-later x b l m, w)

-- what is counted is there
counted_there : (before : List Line) → 0 < count_answers any_open before → LeaveOpen before
counted_there [] h = absurd (omega arith)
counted_there (line.Answer brave ar iar cores names tuple ∷ b) h = elim (open_cases (any_open brave ar iar) (count_answers any_open b) h) [
  | inl e ↦ (line.Answer brave ar iar cores names tuple, Contains-head (line.Answer brave ar iar cores names tuple) b, e)
  | inr k ↦ later_open (line.Answer brave ar iar cores names tuple) b (counted_there b k)
]
counted_there (line.End answers brave ar iar undecided ∷ b) h = absurd (omega arith)
counted_there (line.Head axioms budget facts keep repairs version ∷ b) h = later_open (line.Head axioms budget facts keep repairs version) b (counted_there b h)
counted_there (line.Cq o query step ∷ b) h = later_open (line.Cq o query step) b (counted_there b h)
counted_there (line.Conflict facts rule member ∷ b) h = later_open (line.Conflict facts rule member) b (counted_there b h)
counted_there (line.Ask candidate tuple causes members ∷ b) h = later_open (line.Ask candidate tuple causes members) b (counted_there b h)
counted_there (line.Try question assume ∷ b) h = later_open (line.Try question assume) b (counted_there b h)
counted_there (line.Learn number clause ∷ b) h = later_open (line.Learn number clause) b (counted_there b h)
counted_there (line.Core number kept dropped ∷ b) h = later_open (line.Core number kept dropped) b (counted_there b h)
counted_there (line.Done how core ∷ b) h = later_open (line.Done how core) b (counted_there b h)
counted_there (line.Forget clauses ∷ b) h = later_open (line.Forget clauses) b (counted_there b h)

module _ (kb : Knowledge) (names : List (List ℕ)) (q : Query) where
  -- what is there before any end is counted
  there_counted : (before : List Line) → AreRight (report_on kb names q) before → (place_of before ≡ AtEnd → ⊥)
      → (l : Line) → Contains before l → IsOpenAnswer l → 0 < count_answers any_open before
  there_counted [] r ended l m w = absurd (Contains-nil l m)
  there_counted (x ∷ b) (r, rs) ended l m w = elim (Contains-cases x b l m) [
    | inl e ↦ here x ended (subst IsOpenAnswer (sym e) w)
    | inr k ↦ further x ended (there_counted b rs (last_of_all kb.axioms (place_of b) x r.order) l k w)
  ]
    where
      here : (x : Line) → (place_of (x ∷ b) ≡ AtEnd → ⊥) → IsOpenAnswer x → 0 < count_answers any_open (x ∷ b)
      here (line.Answer brave ar iar cores names tuple) ended w = one_open (any_open brave ar iar) (count_answers any_open b) w
      here (line.Head axioms budget facts keep repairs version) ended w = absurd w
      here (line.Cq o query step) ended w = absurd w
      here (line.Conflict facts rule member) ended w = absurd w
      here (line.Ask candidate tuple causes members) ended w = absurd w
      here (line.Try question assume) ended w = absurd w
      here (line.Learn number clause) ended w = absurd w
      here (line.Core number kept dropped) ended w = absurd w
      here (line.Done how core) ended w = absurd w
      here (line.Forget clauses) ended w = absurd w
      here (line.End answers brave ar iar undecided) ended w = absurd w

      further : (x : Line) → (place_of (x ∷ b) ≡ AtEnd → ⊥) → 0 < count_answers any_open b → 0 < count_answers any_open (x ∷ b)
      further (line.Answer brave ar iar cores names tuple) ended h = still_open (any_open brave ar iar) (count_answers any_open b) h
      further (line.Head axioms budget facts keep repairs version) ended h = h
      further (line.Cq o query step) ended h = h
      further (line.Conflict facts rule member) ended h = h
      further (line.Ask candidate tuple causes members) ended h = h
      further (line.Try question assume) ended h = h
      further (line.Learn number clause) ended h = h
      further (line.Core number kept dropped) ended h = h
      further (line.Done how core) ended h = h
      further (line.Forget clauses) ended h = h
      further (line.End answers brave ar iar undecided) ended h = absurd (ended refl)

-- ---- lines in the other order

from_reverse : (lines : List Line) (l : Line) → Contains (reverse lines) l → Contains lines l
from_reverse lines l m = subst (λ xs. Contains xs l) (reverse-reverse lines) (Contains-reverse (reverse lines) l m)

-- lines with one more at their end, newest first
newest_first : (before : List Line) (x : Line) → reverse (reverse before ++ x ∷ []) ≡ x ∷ before
newest_first before x = reverse-append (reverse before) (x ∷ []) ∙ ap (λ (xs : List Line). x ∷ xs) (reverse-reverse before)

pub open_is_counted : OpenIsCounted
open_is_counted kb names q before answers brave ar iar undecided accepts = (counts, leaves)
  where
    end : Line
    end = line.End answers brave ar iar undecided

    rights : AreRight (report_on kb names q) (line.End answers brave ar iar undecided ∷ before)
    rights = subst (AreRight (report_on kb names q)) (newest_first before (line.End answers brave ar iar undecided)) accepts.right

    counts : undecided ≢ 0 → LeaveOpen (reverse before ++ line.End answers brave ar iar undecided ∷ [])
    counts some =
        let w = rights.0 in
        let n = w.own.undecided_count in
        let (l, m, v) = counted_there before (omega (arith, n, some)) in
        (l, Contains-append_left (reverse before) _ l (Contains-reverse before l m), v)

    leaves : LeaveOpen (reverse before ++ line.End answers brave ar iar undecided ∷ []) → undecided ≢ 0
    leaves (l, m, v) = elim (Contains-push_cases (reverse before) (line.End answers brave ar iar undecided) l m) [
      | inl k ↦ λ none.
          let w = rights.0 in
          let n = w.own.undecided_count in
          let h = there_counted kb names q before rights.1 (last_of_all kb.axioms (place_of before) (line.End answers brave ar iar undecided) w.order) l
          (from_reverse before l k) v in
          omega (arith, n, h, none)
      | inr e ↦ absurd (subst IsOpenAnswer (sym e) v)
    ]
