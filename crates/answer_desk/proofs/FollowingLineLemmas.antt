-- The lines of an open answer as lists: what is counted in them, and what `learn` lines leave alone.
use Rattle.std.proofs.Common.{◌≡◌, ℕ, ◌+◌, ◌↔◌, List, [], ◌∷◌, ◌++◌, map, true, refl, sym, subst, ap, ◌∙◌, arith}
use Rattle.std.proofs.Common.{Option, Some, None}
use Rattle.std.specs.Prelude.{reverse}
use Rattle.std.proofs.lemmas.List.{append_assoc, append-nil, reverse-append, reverse-reverse}
use Rattle.report_text.specs.declared.line.Line.{Line}
use Rattle.report_text.specs.declared.line.Line.TheVariants as line
use Rattle.report_text.specs.declared.line.Question.{Question}
use Rattle.report_text.specs.declared.line.Question.TheVariants as question
use Rattle.report_text.specs.Reports.{AddsLine, StayTold}
use Rattle.proof_logs.specs.Logs.{Learned}
use Rattle.report_rules.specs.Tries.{count_cores}
use Rattle.report_rules.specs.Live.{count_learned, same_question}
use Rattle.report_laws.specs.DeskAnswers.{ask_line}
use Rattle.report_laws.proofs.ListLemmas.{reverse-cons}
use Rattle.answer_evidence.specs.Logging.{learn_line, AddsLearns}
use Rattle.answer_evidence.specs.declared.evidence.Evidence.{Evidence}
use Rattle.cdcl_core.specs.State.{State}
use Rattle.answer_desk.specs.Following.{Frame, Stage, FollowsOpen, lines_on, learn_lines, try_lines, AddsLines, Stops, StopsAfter, GoesOn}

-- ---- counts

pub count_learned-append : (more b : List Line) → count_learned (more ++ b) ≡ count_learned more + count_learned b
count_learned-append [] b = omega arith
count_learned-append (line.Learn number clause ∷ more) b = let h = count_learned-append more b in omega arith
count_learned-append (line.Head axioms budget facts keep repairs version ∷ more) b = count_learned-append more b
count_learned-append (line.Cq o query step ∷ more) b = count_learned-append more b
count_learned-append (line.Conflict facts rule member ∷ more) b = count_learned-append more b
count_learned-append (line.Ask candidate tuple causes members ∷ more) b = count_learned-append more b
count_learned-append (line.Try q assume ∷ more) b = count_learned-append more b
count_learned-append (line.Core number kept dropped ∷ more) b = count_learned-append more b
count_learned-append (line.Done h core ∷ more) b = count_learned-append more b
count_learned-append (line.Forget clauses ∷ more) b = count_learned-append more b
count_learned-append (line.Answer brave ar iar cores names tuple ∷ more) b = count_learned-append more b
count_learned-append (line.End answers brave ar iar undecided ∷ more) b = count_learned-append more b

pub count_cores-append : (more b : List Line) → count_cores (more ++ b) ≡ count_cores more + count_cores b
count_cores-append [] b = omega arith
count_cores-append (line.Core number kept dropped ∷ more) b = let h = count_cores-append more b in omega arith
count_cores-append (line.Head axioms budget facts keep repairs version ∷ more) b = count_cores-append more b
count_cores-append (line.Cq o query step ∷ more) b = count_cores-append more b
count_cores-append (line.Conflict facts rule member ∷ more) b = count_cores-append more b
count_cores-append (line.Ask candidate tuple causes members ∷ more) b = count_cores-append more b
count_cores-append (line.Try q assume ∷ more) b = count_cores-append more b
count_cores-append (line.Learn number clause ∷ more) b = count_cores-append more b
count_cores-append (line.Done h core ∷ more) b = count_cores-append more b
count_cores-append (line.Forget clauses ∷ more) b = count_cores-append more b
count_cores-append (line.Answer brave ar iar cores names tuple ∷ more) b = count_cores-append more b
count_cores-append (line.End answers brave ar iar undecided ∷ more) b = count_cores-append more b

-- behind lines that come before the answer
pub count_learned-on : (w : Frame) (more before : List Line) → count_learned (lines_on w more before) ≡ count_learned before + count_learned more
count_learned-on w more before = let h = count_learned-append more (ask_line w.asked w.members ∷ before) in omega arith

pub count_cores-on : (w : Frame) (more before : List Line) → count_cores (lines_on w more before) ≡ count_cores before + count_cores more
count_cores-on w more before = let h = count_cores-append more (ask_line w.asked w.members ∷ before) in omega arith

-- ---- `learn` lines

pub learn_lines_more : (e : Learned) (es : List Learned) (b : List Line) → learn_lines (e ∷ es) ++ b ≡ learn_lines es ++ learn_line e ∷ b
learn_lines_more e es b = ap (λ (xs : List Line). xs ++ b) (reverse-cons (learn_line e) (map learn_line es))
    ∙ append_assoc (learn_lines es) (learn_line e ∷ []) b

-- what one `learn` line leaves alone, all of them do
pub skip_learns : {X : Type 0} (F : List Line → X) → ((n : ℕ) (c : List ℕ) (b : List Line) → F (line.Learn n c ∷ b) ≡ F b) → (es : List Learned) (b : List Line)
    → F (learn_lines es ++ b) ≡ F b
skip_learns F same [] b = refl
skip_learns F same (e ∷ es) b = ap F (learn_lines_more e es b) ∙ (skip_learns F same es (learn_line e ∷ b) ∙ same e.number e.clause b)

pub skip_learns_for : (P : List Line → Type 0) → ((n : ℕ) (c : List ℕ) (b : List Line) → P (line.Learn n c ∷ b) ↔ P b) → (es : List Learned) (b : List Line)
    → P (learn_lines es ++ b) ↔ P b
skip_learns_for P same [] b = ((λ h. h), (λ h. h))
skip_learns_for P same (e ∷ es) b =
    let rest = skip_learns_for P same es (learn_line e ∷ b) in
    let one = same e.number e.clause b in (
      (λ h. one.0 (rest.0 (subst P (learn_lines_more e es b) h))),
      (λ h. subst P (sym (learn_lines_more e es b)) (rest.1 (one.1 h))),
    )

pub question_own : (q : Question) → same_question q q ≡ true
question_own question.Brave = refl
question_own question.Iar = refl
question_own question.Ar = refl

-- the lines of a try behind those before the answer
pub try_lines_on : (w : Frame) (q : Question) (assume : List ℕ) (es : List Learned) (more before : List Line)
    → lines_on w (try_lines q assume es more) before ≡ try_lines q assume es (lines_on w more before)
try_lines_on w q assume es more before = append_assoc (learn_lines es) (line.Try q assume ∷ more) (ask_line w.asked w.members ∷ before)

-- ---- a report of the lines

pub AddsLines-none : (was now : Option (List Line)) → StayTold was now → AddsLines was now []
AddsLines-none None now same = tt
AddsLines-none (Some lines) now same = same ∙ ap (λ (xs : List Line). Some xs) (sym (append-nil lines))

pub AddsLines-one : (was now : Option (List Line)) (l : Line) → AddsLine was now l → AddsLines was now (l ∷ [])
AddsLines-one None now l added = tt
AddsLines-one (Some lines) now l added = added

pub AddsLines-learned : (was now : Option (List Line)) (es : List Learned) → AddsLearns was now es → AddsLines was now (learn_lines es)
AddsLines-learned None now es added = tt
AddsLines-learned (Some lines) now es added = added ∙ ap (λ (xs : List Line). Some (lines ++ xs)) (sym (reverse-reverse (map learn_line es)))

-- what a call adds, and then another
pub AddsLines-then : (was mid now : Option (List Line)) (first second : List Line) → AddsLines was mid first → AddsLines mid now second
    → AddsLines was now (second ++ first)
AddsLines-then None mid now first second a b = tt
AddsLines-then (Some lines) mid now first second a b =
    subst (λ (o : Option (List Line)). AddsLines o now second) a b
    ∙ ap (λ (xs : List Line). Some xs) (append_assoc lines (reverse first) (reverse second) ∙ ap (λ (xs : List Line). lines ++ xs)
    (sym (reverse-append second first)))

-- after a call that went on, a fault of the next one is a fault of both
pub stops_then : (w : Frame) (more first : List Line) (was mid now : Option (List Line)) (torn : Option Line) → AddsLines was mid first
    → StopsAfter w (first ++ more) mid now torn → StopsAfter w more was now torn
stops_then w more first None mid now torn a s = tt
stops_then w more first (Some lines) mid now torn a s = go (subst (λ (o : Option (List Line)). StopsAfter w (first ++ more) o now torn) a s)
  where
    go : (added : List Line) × Stops w (added ++ (first ++ more)) torn × (now ≡ Some ((lines ++ reverse first) ++ reverse added))
        → (added : List Line) × Stops w (added ++ more) torn × (now ≡ Some (lines ++ reverse added))
    go (added, stops, told) = (
      added ++ first,
      subst (λ (xs : List Line). Stops w xs torn) (sym (append_assoc added first more)) stops,
      told ∙ ap (λ (xs : List Line). Some xs) (append_assoc lines (reverse first) (reverse added)
          ∙ ap (λ (xs : List Line). lines ++ xs) (sym (reverse-append added first))),
    )

-- and what goes on after it goes on after both
pub goes_then : (w : Frame) (more first : List Line) (state : State) (cores : ℕ) (stage : Stage) (e : Evidence) (was mid now : Option (List Line))
    → AddsLines was mid first → GoesOn w (first ++ more) state cores stage e mid now → GoesOn w more state cores stage e was now
goes_then w more first state cores stage e was mid now a (added, still, told) = (
  added ++ first,
  subst (λ (xs : List Line). FollowsOpen w xs state cores stage e) (sym (append_assoc added first more)) still,
  AddsLines-then was mid now first added a told,
)
