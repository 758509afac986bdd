-- The answers to the candidates, one after another, and the end of the report.
use Rattle.std.proofs.Common.{◌≡◌, ℕ, ◌+◌, ◌<◌, ◌≤◌, List, [], ◌∷◌, ◌++◌, length, take, get_or, Option, Some, None, Result}
use Rattle.std.proofs.Common.{Ok, Err, refl, sym, subst, ap, ◌∙◌, arith}
use Rattle.std.proofs.Common.{slice_get}
use Rattle.std.specs.Prelude.{All, reverse, IfSome}
use Rattle.std.specs.Result.{IsErrAnd}
use Rattle.std.specs.List.{AllZip}
use Rattle.std.proofs.lemmas.List.{reverse-append, reverse-reverse, take_all, take_more}
use Rattle.std.proofs.lemmas.List.Elements.{All-contains}
use Rattle.cq_terms.specs.Conflicts.{ConflictGraph}
use Rattle.cq_terms.specs.Knowledge.{Knowledge}
use Rattle.cq_terms.specs.Query.{Query}
use Rattle.cq_steps.specs.declared.closure.Member.{Member}
use Rattle.priority_graph.specs.Priority.{Priority}
use Rattle.cause_finder.specs.declared.candidate.Candidate.{Candidate}
use Rattle.cause_finder.specs.Causes.{AreAnswers}
use Rattle.report_text.specs.declared.line.Line.{Line}
use Rattle.report_rules.specs.Inputs.{Input, report_on}
use Rattle.report_rules.specs.Order.{place_of}
use Rattle.report_rules.specs.Accepted.{Right, AreRight}
use Rattle.report_laws.specs.Summaries.{Said}
use Rattle.answer_desk.specs.declared.plan.ClassifyFault.{ClassifyFault}
use Rattle.answer_desk.specs.declared.plan.Plan.{Plan}
use Rattle.classifier.specs.declared.summary.Summary.{Summary}
use Rattle.answer_desk.specs.declared.plan.Verdicts.{Verdicts}
use Rattle.answer_desk.specs.Answering.{TellTruth, DecideOverAll, DecideByBudget, AnswersRight, AgreesOnAnswer}
use Rattle.answer_desk.specs.Desks.{DeskState, IsSameDesk, MayAnswer}
use Rattle.answer_evidence.specs.FreeCauses.{IsFreeCause}
use Rattle.classifier.specs.WholeReports.{MayBeAnswered, MayAnswerAll, no_summary, with_verdicts, said_of, IsSaidOf, IsSummaryOver, tuples_of}
use Rattle.classifier.specs.WholeReports.{AnswersSoFar, AnswersOne, AnswersNext, AnswersAll, EndsReport, TellsReport, ReportsWhole, end_line}
use Rattle.classifier.specs.WholeWriting.{AddsLines, StopsAmong, AreRightInTurn, IsRightSoFar}
use Rattle.classifier.proofs.WholeWritingLemmas.{right_after, stopped_right}
use Rattle.classifier.proofs.WholeCountLemmas.{said_one, summary_none, summary_more}
use Rattle.classifier.proofs.WholeAnswerLemmas.{answers_more, asks_rightly, tuples_taken, ends_rightly}

-- ---- what may be asked next

pub same_desk : (desk : DeskState) → IsSameDesk desk desk
same_desk desk = record { conflicts = refl; better = refl; plan = refl; selectors = refl }

pub same_on : (a b c : DeskState) → IsSameDesk a b → IsSameDesk b c → IsSameDesk a c
same_on a b c v w = record {
  conflicts = w.conflicts ∙ v.conflicts;
  better = w.better ∙ v.better;
  plan = w.plan ∙ v.plan;
  selectors = w.selectors ∙ v.selectors;
}

may_be : (old : DeskState) (texts : List (List ℕ)) (candidates : List Candidate) (n : ℕ) (c : Candidate) → MayAnswerAll old texts candidates
    → n < length candidates → get_or candidates n c ≡ c → MayBeAnswered old.better texts c
may_be old texts candidates n c may inside at = All-contains (MayBeAnswered old.better texts) candidates c may.each (n, inside, at)

pub may_answer_next : (old new : DeskState) (texts : List (List ℕ)) (candidates : List Candidate) (n : ℕ) (c : Candidate) → MayAnswerAll old texts candidates
    → IsSameDesk old new → new.answers ≡ n → n < length candidates → get_or candidates n c ≡ c → MayAnswer new n c.causes
may_answer_next old new texts candidates n c may same counted inside at =
    let own = may_be old texts candidates n c may inside at in
    let enough = may.enough in
    let few = may.few in
    let selectors = same.selectors in
    record {
      number_fits = omega (arith, inside, enough, selectors);
      few = own.few;
      causes_are = subst (λ (p : Priority). All (IsFreeCause p) c.causes) (sym same.better) own.causes_are;
      answers = omega (arith, inside, enough, few, counted);
    }

pub named_next : (old : DeskState) (texts : List (List ℕ)) (candidates : List Candidate) (n : ℕ) (c : Candidate) → MayAnswerAll old texts candidates
    → n < length candidates → get_or candidates n c ≡ c → All (λ i. i < length texts) c.tuple
named_next old texts candidates n c may inside at = (may_be old texts candidates n c may inside at).named

-- ---- what is said

pub said_none : (g : ConflictGraph) (p : Priority) (plan : Plan) → IsSummaryOver g p plan [] no_summary
said_none g p plan = ([], tt, summary_none)

zip_push : (g : ConflictGraph) (p : Priority) (plan : Plan) (candidates : List Candidate) (said : List Said) (c : Candidate) (s : Said)
    → AllZip (IsSaidOf g p plan) candidates said → IsSaidOf g p plan c s → AllZip (IsSaidOf g p plan) (candidates ++ c ∷ []) (said ++ s ∷ [])
zip_push g p plan [] [] c s zip w = (w, tt)
zip_push g p plan [] (r ∷ said) c s zip w = absurd zip
zip_push g p plan (d ∷ candidates) [] c s zip w = absurd zip
zip_push g p plan (d ∷ candidates) (r ∷ said) c s zip w = (zip.0, zip_push g p plan candidates said c s zip.1 w)

taken : (candidates : List Candidate) (n : ℕ) (c : Candidate) → n < length candidates → get_or candidates n c ≡ c
    → take (n + 1) candidates ≡ take n candidates ++ c ∷ []
taken candidates n c inside at = take_more candidates n c inside ∙ ap (λ (x : Candidate). take n candidates ++ x ∷ []) at

pub said_next : (old new : DeskState) (candidates : List Candidate) (n : ℕ) (c : Candidate) (s : Summary) (v : Verdicts) → IsSameDesk old new
    → n < length candidates → get_or candidates n c ≡ c → IsSummaryOver old.conflicts old.better old.plan (take n candidates) s
    → TellTruth new c.tuple c.causes v → DecideOverAll new c.causes v → DecideByBudget new c.causes v
    → IsSummaryOver old.conflicts old.better old.plan (take (n + 1) candidates) (with_verdicts s v)
said_next old new candidates n c s v same inside at (said, zip, of) truth over_all by_budget = (
  said ++ said_of c.tuple v ∷ [],
  subst (λ (cs : List Candidate). AllZip (IsSaidOf old.conflicts old.better old.plan) cs (said ++ said_of c.tuple v ∷ [])) (sym
      (taken candidates n c inside at))
      (zip_push old.conflicts old.better old.plan (take n candidates) said c (said_of c.tuple v) zip
      (said_one new old.conflicts old.better old.plan c v same.conflicts same.better same.plan truth over_all by_budget)),
  summary_more said s c.tuple v of,
)

-- ---- one answer

-- nothing was written before a fault
pub next_nothing : (Q : ClassifyFault → Type 0) (desk last : DeskState) (number : ℕ) (c : Candidate) (texts : List (List ℕ)) (was : Option (List Line))
    (torn : Option Line) → torn ≡ None → (r : Result Verdicts ClassifyFault) → IsErrAnd r Q → AnswersNext desk last number c texts was was torn r
next_nothing Q desk last number c texts was torn none (Ok v) is = absurd is
next_nothing Q desk last number c texts was torn none (Err f) is = λ input before told agrees same asks. (
  [],
  record { told = told; right = tt; torn_right = subst (λ (t : Option Line). IfSome t (Right input before)) (sym none) tt },
  tt,
)

answered_one : (input : Input) (desk : DeskState) (number : ℕ) (c : Candidate) (names : List (List ℕ)) (before more : List Line)
    (r : Result Verdicts ClassifyFault) → AgreesOnAnswer input desk number c.tuple c.causes c.members names before more r
    → AnswersOne input desk number c before more r
answered_one input desk number c names before more (Ok v) a = (a.0, (names, a.1))
answered_one input desk number c names before more (Err f) a = tt

-- with the texts of its tuple
pub next_answered : (old new : DeskState) (number : ℕ) (c : Candidate) (texts names : List (List ℕ)) (was now : Option (List Line)) (torn : Option Line)
    (r : Result Verdicts ClassifyFault) → AllZip (λ i text. slice_get texts i ≡ Some text) c.tuple names
    → AnswersRight old new number c.tuple c.causes c.members names was now torn r → AnswersNext old new number c texts was now torn r
next_answered old new number c texts names was now torn r zip answers input before told agrees same asks =
    let (more, writes, after) = answers input before told agrees (record {
      ask = asks;
      texts = subst (λ (ts : List (List ℕ)). AllZip (λ (i : ℕ) (text : List ℕ). slice_get ts i ≡ Some text) c.tuple names) (sym same) zip;
    }) in (more, writes, answered_one input new number c names before more r after)

-- ---- the lines

-- the lines tell the answers to the first candidates
abbrev pub AnswersUpTo : DeskState → DeskState → List Candidate → List (List ℕ) → ℕ → Option (List Line) → Option (List Line) → Summary → Type 0
AnswersUpTo old new candidates texts n was now s = (kb : Knowledge) (q : Query) (members : List Member) (before : List Line)
    → was ≡ Some (reverse before) → AreAnswers kb.axioms kb.facts q members candidates
    → AnswersSoFar (report_on kb texts q) old members [] no_summary before
    → (after : List Line) × (now ≡ Some (reverse after)) × AnswersSoFar (report_on kb texts q) new members (tuples_of (take n candidates)) s after

pub up_to_none : (desk : DeskState) (candidates : List Candidate) (texts : List (List ℕ)) (was : Option (List Line))
    → AnswersUpTo desk desk candidates texts 0 was was no_summary
up_to_none desk candidates texts was kb q members before told answers so_far = (before, told, so_far)

pub up_to_next : (old mid new : DeskState) (candidates : List Candidate) (texts : List (List ℕ)) (n : ℕ) (c : Candidate) (s : Summary) (v : Verdicts)
    (was told now : Option (List Line)) (torn : Option Line) → n < length candidates → get_or candidates n c ≡ c
    → AnswersUpTo old mid candidates texts n was told s → AnswersNext mid new n c texts told now torn (Ok v)
    → AnswersUpTo old new candidates texts (n + 1) was now (with_verdicts s v)
up_to_next old mid new candidates texts n c s v was told now torn inside at up_to next kb q members before e answers start =
    let input : Input = report_on kb texts q in
    let (after, told_is, so_far) = up_to kb q members before e answers start in
    let (more, writes, agrees) = next input after told_is so_far.agrees refl
    (asks_rightly kb texts q mid members candidates s after n c inside at answers so_far) in (
      more ++ after,
      writes.told,
      subst (λ (ts : List (List ℕ)). AnswersSoFar input new members ts (with_verdicts s v) (more ++ after)) (sym (tuples_taken candidates n c inside at))
          (answers_more input mid new members (tuples_of (take n candidates)) s after more now torn n c agrees.1.0 v so_far writes agrees.0 agrees.1.1),
    )

-- a fault in the next answer
pub up_to_fault : (Q : ClassifyFault → Type 0) (old mid new last : DeskState) (candidates : List Candidate) (texts : List (List ℕ)) (n : ℕ) (c : Candidate)
    (s : Summary) (f : ClassifyFault) (was told now : Option (List Line)) (torn : Option Line) → n < length candidates → get_or candidates n c ≡ c
    → AnswersUpTo old mid candidates texts n was told s → AnswersNext mid new n c texts told now torn (Err f)
    → (r : Result Summary ClassifyFault) → IsErrAnd r Q → AnswersAll old last candidates texts was now torn r
up_to_fault Q old mid new last candidates texts n c s f was told now torn inside at up_to next (Ok x) is kb q members before e answers start = absurd is
up_to_fault Q old mid new last candidates texts n c s f was told now torn inside at up_to next (Err x) is kb q members before e answers start =
    let input : Input = report_on kb texts q in
    let (after, told_is, so_far) = up_to kb q members before e answers start in
    let (more, writes, none) = next input after told_is so_far.agrees refl
    (asks_rightly kb texts q mid members candidates s after n c inside at answers so_far) in
    record { before = more ++ after; lines = writes.told; right = right_after input after more so_far.right writes.right; torn_right = writes.torn_right }

-- all of them
pub up_to_all : (old new : DeskState) (candidates : List Candidate) (texts : List (List ℕ)) (n : ℕ) (s : Summary) (was now : Option (List Line))
    (torn : Option Line) → length candidates ≤ n → AnswersUpTo old new candidates texts n was now s → AnswersAll old new candidates texts was now torn (Ok s)
up_to_all old new candidates texts n s was now torn all up_to kb q members before e answers start =
    let (after, told_is, so_far) = up_to kb q members before e answers start in
    (after, told_is, subst (λ (cs : List Candidate). AnswersSoFar (report_on kb texts q) new members (tuples_of cs) s after) (take_all n candidates all) so_far)

-- ---- the end

-- nothing was written before a fault
pub nothing_written : (Q : ClassifyFault → Type 0) (kb : Knowledge) (texts : List (List ℕ)) (q : Query) (plan : Plan) (told : Option (List Line))
    (torn : Option Line) (before : List Line) → told ≡ Some (reverse before) → AreRight (report_on kb texts q) before → torn ≡ None
    → (r : Result Summary ClassifyFault) → IsErrAnd r Q → ReportsWhole kb texts q plan told torn r
nothing_written Q kb texts q plan told torn before is right none (Ok s) e = absurd e
nothing_written Q kb texts q plan told torn before is right none (Err f) e = record {
  before = before;
  lines = is;
  right = right;
  torn_right = subst (λ (t : Option Line). IfSome t (Right (report_on kb texts q) before)) (sym none) tt;
}

-- a fault before the end
pub reports_fault : (Q : ClassifyFault → Type 0) (kb : Knowledge) (texts : List (List ℕ)) (q : Query) (plan : Plan) (told : Option (List Line))
    (torn : Option Line) → IsRightSoFar (report_on kb texts q) told torn → (r : Result Summary ClassifyFault) → IsErrAnd r Q
    → ReportsWhole kb texts q plan told torn r
reports_fault Q kb texts q plan told torn w (Ok s) e = absurd e
reports_fault Q kb texts q plan told torn w (Err f) e = w

-- a fault at the end
pub end_fault : (kb : Knowledge) (texts : List (List ℕ)) (q : Query) (desk : DeskState) (members : List Member) (candidates : List Candidate) (s : Summary)
    (after : List Line) (told now : Option (List Line)) (torn : Option Line) → AreAnswers kb.axioms kb.facts q members candidates
    → told ≡ Some (reverse after) → AnswersSoFar (report_on kb texts q) desk members (tuples_of candidates) s after
    → StopsAmong told now torn (end_line s ∷ []) → IsRightSoFar (report_on kb texts q) now torn
end_fault kb texts q desk members candidates s after told now torn answers is so_far stops =
    stopped_right (report_on kb texts q) after (end_line s ∷ []) told now torn is so_far.right
    (ends_rightly kb texts q desk members candidates s after answers so_far, tt) stops

-- the whole report
pub report_told : (kb : Knowledge) (texts : List (List ℕ)) (q : Query) (plan : Plan) (desk : DeskState) (members : List Member) (candidates : List Candidate)
    (s : Summary) (after : List Line) (told now : Option (List Line)) → desk.plan ≡ plan → AreAnswers kb.axioms kb.facts q members candidates
    → told ≡ Some (reverse after) → AnswersSoFar (report_on kb texts q) desk members (tuples_of candidates) s after
    → AddsLines told now (end_line s ∷ []) → TellsReport kb texts q plan now s
report_told kb texts q plan desk members candidates s after told now same answers is so_far added =
    let input : Input = report_on kb texts q in
    let lines : List Line = reverse after ++ end_line s ∷ [] in
    let back : reverse lines ≡ end_line s ∷ after = reverse-append (reverse after) (end_line s ∷ [])
    ∙ ap (λ (ls : List Line). end_line s ∷ ls) (reverse-reverse after) in
    record {
      before = after;
      lines = subst (λ (o : Option (List Line)). AddsLines o now (end_line s ∷ [])) is added;
      accepted = record {
        right = subst (AreRight input) (sym back) (ends_rightly kb texts q desk members candidates s after answers so_far, so_far.right);
        ended = ap place_of back;
      };
      repairs = so_far.agrees.told.mode ∙ ap (λ (x : Plan). x.repairs) same;
      budget = so_far.agrees.told.budget ∙ ap (λ (x : Plan). x.budget) same;
      keep = so_far.agrees.told.keep ∙ ap (λ (x : Plan). x.keep) same;
    }

-- ---- the candidates by one desk

-- where there is no memory for the desk
pub ends_at_once : (Q : ClassifyFault → Type 0) (desk : DeskState) (candidates : List Candidate) (texts : List (List ℕ)) (was : Option (List Line))
    (torn : Option Line) → torn ≡ None → (r : Result Summary ClassifyFault) → IsErrAnd r Q → EndsReport desk candidates texts was was torn r
ends_at_once Q desk candidates texts was torn none r is kb q members before told answers start =
    nothing_written Q kb texts q desk.plan was torn before told start.right none r is

-- where an answer fails
pub ends_in_answers : (Q : ClassifyFault → Type 0) (desk old new : DeskState) (candidates : List Candidate) (texts : List (List ℕ)) (was now : Option
    (List Line))
    (torn : Option Line) (f : ClassifyFault) → old ≡ desk → AnswersAll old new candidates texts was now torn (Err f) → (r : Result Summary ClassifyFault)
    → IsErrAnd r Q → EndsReport desk candidates texts was now torn r
ends_in_answers Q desk old new candidates texts was now torn f same all r is kb q members before told answers start =
    reports_fault Q kb texts q desk.plan now torn (all kb q members before told answers
    (subst (λ (d : DeskState). AnswersSoFar (report_on kb texts q) d members [] no_summary before) (sym same) start)) r is

-- where the end fails
pub ends_in_end : (Q : ClassifyFault → Type 0) (desk old new : DeskState) (candidates : List Candidate) (texts : List (List ℕ)) (s : Summary)
    (was mid now : Option (List Line)) (early torn : Option Line) → old ≡ desk → AnswersAll old new candidates texts was mid early (Ok s)
    → StopsAmong mid now torn (end_line s ∷ []) → (r : Result Summary ClassifyFault) → IsErrAnd r Q → EndsReport desk candidates texts was now torn r
ends_in_end Q desk old new candidates texts s was mid now early torn same all stops r is kb q members before told answers start =
    let (after, told_is, so_far) = all kb q members before told answers
    (subst (λ (d : DeskState). AnswersSoFar (report_on kb texts q) d members [] no_summary before) (sym same) start) in
    reports_fault Q kb texts q desk.plan now torn (end_fault kb texts q new members candidates s after mid now torn answers told_is so_far stops) r is

-- and where all is written
pub ends_well : (desk old new : DeskState) (candidates : List Candidate) (texts : List (List ℕ)) (s : Summary) (was mid now : Option (List Line))
    (early torn : Option Line) → old ≡ desk → IsSameDesk old new → AnswersAll old new candidates texts was mid early (Ok s)
    → AddsLines mid now (end_line s ∷ []) → EndsReport desk candidates texts was now torn (Ok s)
ends_well desk old new candidates texts s was mid now early torn same kept all added kb q members before told answers start =
    let (after, told_is, so_far) = all kb q members before told answers
    (subst (λ (d : DeskState). AnswersSoFar (report_on kb texts q) d members [] no_summary before) (sym same) start) in
    report_told kb texts q desk.plan new members candidates s after mid now (kept.plan ∙ ap (λ (d : DeskState). d.plan) same) answers told_is so_far added

-- ---- all

-- a fault before the first answer
pub opening_fault : (Q : ClassifyFault → Type 0) (kb : Knowledge) (texts : List (List ℕ)) (q : Query) (plan : Plan) (lines : List Line)
    (was now : Option (List Line)) (torn : Option Line) → was ≡ Some [] → AreRightInTurn (report_on kb texts q) [] lines → StopsAmong was now torn lines
    → (r : Result Summary ClassifyFault) → IsErrAnd r Q → ReportsWhole kb texts q plan now torn r
opening_fault Q kb texts q plan lines was now torn none turn stops r is =
    reports_fault Q kb texts q plan now torn (stopped_right (report_on kb texts q) [] lines was now torn none tt turn stops) r is
