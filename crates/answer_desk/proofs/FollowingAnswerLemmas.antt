-- One answer from its opening to its end: the calls one after the other, and what is promised of them together.
use Rattle.std.proofs.Common.{◌≡◌, ℕ, ◌+◌, ◌<◌, ◌≤◌, ◌^◌, ◌⊎◌, inl, inr, List, [], ◌∷◌, ◌++◌, length, Contains, refl, sym, subst, ap, ◌∙◌, arith}
use Rattle.std.proofs.Common.{Option, Some, None, IfSome, Result, Ok, Err}
use Rattle.std.specs.Prelude.{reverse}
use Rattle.std.proofs.lemmas.List.{append-nil}
use Rattle.cdcl_core.specs.State.{State}
use Rattle.report_text.specs.declared.line.Line.{Line}
use Rattle.report_text.specs.declared.line.Line.TheVariants as line
use Rattle.report_text.specs.Reports.{AddsLine, StayTold}
use Rattle.answer_evidence.specs.declared.evidence.Evidence.{Evidence}
use Rattle.answer_desk.specs.declared.plan.Verdicts.{Verdicts}
use Rattle.answer_desk.specs.declared.plan.ClassifyFault.{ClassifyFault}
use Rattle.answer_desk.specs.Answering.{TellTruth, DecideOverAll, DecideByBudget, AnswersRight, WritesRight, AgreesOnAnswer, SaysVerdicts}
use Rattle.answer_desk.specs.Desks.{DeskState}
use Rattle.answer_evidence.specs.Ranges.{IsRange}
use Rattle.answer_evidence.specs.Shown.{answer_line}
use Rattle.answer_desk.specs.Following.{Frame, frame_of, Stage, AtEnd, FollowsOpen, GoesOn, Stops, StopsAfter, AddsLines}
use Rattle.answer_desk.proofs.FollowingLineLemmas.{AddsLines-none, AddsLines-one, AddsLines-then, goes_then, stops_then}
use Rattle.answer_desk.proofs.FollowingEndLemmas.{tells_truth, decides_over_all, decides_by_budget, desk_after}
use Rattle.answer_desk.proofs.FollowingReportLemmas.{wrote_nothing, tore_ask, stopped_inside, tore_answer, answered_right}

-- ---- one call after the other

pub goes_here : (w : Frame) (more : List Line) (state : State) (cores : ℕ) (stage : Stage) (e : Evidence) (was now : Option (List Line))
    → FollowsOpen w more state cores stage e → StayTold was now → GoesOn w more state cores stage e was now
goes_here w more state cores stage e was now o stay = ([], o, AddsLines-none was now stay)

pub goes_twice : (w : Frame) (more : List Line) (first second : State) (cores cores' : ℕ) (stage stage' : Stage) (e e' : Evidence)
    (was mid now : Option (List Line)) → GoesOn w more first cores stage e was mid
    → ((lines : List Line) → FollowsOpen w lines first cores stage e → GoesOn w lines second cores' stage' e' mid now)
    → GoesOn w more second cores' stage' e' was now
goes_twice w more first second cores cores' stage stage' e e' was mid now (added, o, told) on =
    goes_then w more added second cores' stage' e' was mid now told (on (added ++ more) o)

pub goes_stops : (w : Frame) (more : List Line) (first : State) (cores : ℕ) (stage : Stage) (e : Evidence) (was mid now : Option (List Line))
    (torn : Option Line) → GoesOn w more first cores stage e was mid
    → ((lines : List Line) → FollowsOpen w lines first cores stage e → StopsAfter w lines mid now torn) → StopsAfter w more was now torn
goes_stops w more first cores stage e was mid now torn (added, o, told) on = stops_then w more added was mid now torn told (on (added ++ more) o)

-- ---- the whole answer

module _ (desk : DeskState) (number : ℕ) (tuple : List ℕ) (causes : List (List ℕ)) (members facts : List ℕ) (names : List (List ℕ))
    (was opened : Option (List Line)) where
  -- a fault while it opens
  pub answer_unopened : (new : DeskState) (f : ClassifyFault) → StayTold was opened
      → AnswersRight desk new number tuple causes members names was opened None (Err f)
  answer_unopened new f stay = wrote_nothing desk number tuple causes members facts names was opened new f stay

  pub answer_torn_open : (new : DeskState) (f : ClassifyFault) → StayTold was opened
      → AnswersRight desk new number tuple causes members names was opened (Some (line.Ask number tuple causes members)) (Err f)
  answer_torn_open new f stay = tore_ask desk number tuple causes members facts names was opened new f stay

  module _ (asked : AddsLine was opened (line.Ask number tuple causes members)) where
    with_ask : (now : Option (List Line)) (added : List Line) → AddsLines opened now added
        → AddsLines was now (added ++ line.Ask number tuple causes members ∷ [])
    with_ask now added a = AddsLines-then was opened now (line.Ask number tuple causes members ∷ []) added
        (AddsLines-one was opened (line.Ask number tuple causes members) asked) a

    -- a fault behind the `ask` line
    pub answer_stopped : (new : DeskState) (f : ClassifyFault) (now : Option (List Line)) (torn : Option Line)
        → StopsAfter (frame_of desk number tuple causes members facts) [] opened now torn
        → AnswersRight desk new number tuple causes members names was now torn (Err f)
    answer_stopped new f now torn stops input before e agrees next = go here
      where
        told : opened ≡ Some (reverse before ++ line.Ask number tuple causes members ∷ [])
        told = subst (λ (o : Option (List Line)). AddsLine o opened (line.Ask number tuple causes members)) e asked

        here : (added : List Line) × Stops (frame_of desk number tuple causes members facts) (added ++ []) torn
            × (now ≡ Some ((reverse before ++ line.Ask number tuple causes members ∷ []) ++ reverse added))
        here = subst (λ (o : Option (List Line)). StopsAfter (frame_of desk number tuple causes members facts) [] o now torn) told stops

        go : (added : List Line) × Stops (frame_of desk number tuple causes members facts) (added ++ []) torn
            × (now ≡ Some ((reverse before ++ line.Ask number tuple causes members ∷ []) ++ reverse added))
            → (more : List Line) × WritesRight input before now torn more × AgreesOnAnswer input new number tuple causes members names before more (Err f)
        go (added, s, is) = stopped_inside desk number tuple causes members facts names was now new f added torn
            (subst (λ (xs : List Line). Stops (frame_of desk number tuple causes members facts) xs torn) (append-nil added) s)
            (with_ask now added (subst (λ (o : Option (List Line)). AddsLines o now added) (sym told) is)) input before e agrees next

    module _ (state : State) (cores : ℕ) (e : Evidence) (mid : Option (List Line))
        (goes : GoesOn (frame_of desk number tuple causes members facts) [] state cores AtEnd e opened mid) where
      at_end : FollowsOpen (frame_of desk number tuple causes members facts) goes.0 state cores AtEnd e
      at_end = subst (λ (xs : List Line). FollowsOpen (frame_of desk number tuple causes members facts) xs state cores AtEnd e) (append-nil goes.0) goes.1

      -- a fault at the `answer` line
      pub answer_unclosed : (new : DeskState) (f : ClassifyFault) (now : Option (List Line)) → StayTold mid now
          → AnswersRight desk new number tuple causes members names was now None (Err f)
      answer_unclosed new f now stay = stopped_inside desk number tuple causes members facts names was now new f goes.0 None
          (record { answered = at_end.follows.answered; numbered = at_end.follows.numbered; torn_right = tt })
          (with_ask now goes.0 (AddsLines-then opened mid now goes.0 [] goes.2 (AddsLines-none mid now stay)))

      pub answer_torn_close : (new : DeskState) (f : ClassifyFault) (now : Option (List Line)) → StayTold mid now → (numbers : List ℕ)
          → IsRange desk.cores cores numbers
          → AnswersRight desk new number tuple causes members names was now (Some (answer_line e numbers names tuple)) (Err f)
      answer_torn_close new f now stay numbers range = tore_answer desk number tuple causes members facts names was now goes.0 state cores
          e at_end numbers range
          new f (with_ask now goes.0 (AddsLines-then opened mid now goes.0 [] goes.2 (AddsLines-none mid now stay)))

      -- all of it was written
      pub answer_whole : (v : Verdicts) → SaysVerdicts e v → (now : Option (List Line)) (numbers : List ℕ) → IsRange desk.cores cores numbers
          → AddsLine mid now (answer_line e numbers names tuple)
          → AnswersRight desk (desk_after desk state number cores) number tuple causes members names was now None (Ok v)
      answer_whole v says now numbers range last = answered_right desk number tuple causes members facts names was now goes.0 state cores e at_end numbers
          range v says.brave says.ar says.iar
          (AddsLines-then was mid now (goes.0 ++ line.Ask number tuple causes members ∷ []) (answer_line e numbers names tuple ∷ [])
          (with_ask mid goes.0 goes.2) (AddsLines-one mid now (answer_line e numbers names tuple) last))

-- what is promised of its verdicts, whatever was written
module _ (desk : DeskState) (number : ℕ) (tuple : List ℕ) (causes : List (List ℕ)) (members facts : List ℕ) (state : State) (cores : ℕ) (e : Evidence)
    (opened mid : Option (List Line)) (goes : GoesOn (frame_of desk number tuple causes members facts) [] state cores AtEnd e opened mid) (v : Verdicts)
    (says : SaysVerdicts e v) where
  pub answer_true : TellTruth desk tuple causes v
  answer_true = tells_truth desk number tuple causes members facts (goes.0 ++ []) state cores e goes.1 v says

  pub answer_over_all : DecideOverAll desk causes v
  answer_over_all = decides_over_all desk number tuple causes members facts (goes.0 ++ []) state cores e goes.1 v says

  pub answer_by_budget : DecideByBudget desk causes v
  answer_by_budget = decides_by_budget desk number tuple causes members facts (goes.0 ++ []) state cores e goes.1 v says
