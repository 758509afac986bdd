-- A report as a log of learned clauses.
use Rattle.std.proofs.Common.{◌≡◌, ℕ, List, [], ◌∷◌, ◌++◌, map, Option, Some, None, Result, Ok, Err, refl, sym, subst, ap, ◌∙◌}
use Rattle.std.specs.Prelude.{reverse}
use Rattle.std.proofs.lemmas.List.{reverse-append, reverse-reverse, map-append, append_assoc, append-nil}
use Rattle.report_text.specs.declared.line.Line.{Line}
use Rattle.report_text.specs.declared.line.Line.TheVariants as line
use Rattle.report_text.specs.Reports.{AddsLine, StayTold, torn_after}
use Rattle.proof_logs.specs.Logs.{Learned, LogContent, IsWhole, HasWhatItHad, Appends, TearsAt}
use Rattle.cdcl_core.specs.Solving.{LogGets, LogFailsOn, LogEnds}
use Rattle.cdcl_core.specs.State.{State}
use Rattle.cdcl_core.specs.declared.outcome.Budget.{Budget}
use Rattle.cdcl_core.specs.declared.outcome.Outcome.{Outcome}
use Rattle.cdcl_core.specs.declared.outcome.SolveFault.{SolveFault}
use Rattle.cdcl_core.specs.declared.outcome.SolveFault.TheVariants as fault
use Rattle.report_text.specs.declared.report.LineFault.{LineFault}
use Rattle.report_text.specs.declared.report.LineFault.TheVariants as line_fault
use Rattle.answer_evidence.specs.Logging.{last_learned, before_learned, learn_line, log_content, OnlyLearns, AddsLearns}

pub reverse-push : (lines : List Line) (l : Line) → reverse (lines ++ l ∷ []) ≡ l ∷ reverse lines
reverse-push lines l = reverse-append lines (l ∷ [])

-- where there is no torn line the log is whole, whether or not it tells
pub whole_without_torn : (lines : Option (List Line)) → IsWhole (log_content lines None)
whole_without_torn None = tt
whole_without_torn (Some lines) = refl

-- one more `learn` line is one more clause
pub Appends-learn : (was now : Option (List Line)) (number : ℕ) (clause : List ℕ) → AddsLine was now (line.Learn number clause)
    → Appends (log_content was None) (log_content now None) number clause
Appends-learn None now number clause added = whole_without_torn now
Appends-learn (Some lines) now number clause added =
    let l = line.Learn number clause in
    let entry : Learned = record { number = number; clause = clause } in
    ap (λ (o : Option (List Line)). log_content o None) added
    ∙ ap (λ (ls : List Line). Some (record { clauses = last_learned ls; torn = None })) (reverse-push lines l)

pub Tears-learn : (was now : Option (List Line)) (number : ℕ) (clause : List ℕ) → StayTold was now
    → TearsAt (log_content was None) (log_content now (Some (line.Learn number clause))) number clause
Tears-learn None now number clause same = tt
Tears-learn (Some lines) now number clause same = ap (λ (o : Option (List Line)). log_content o (Some (line.Learn number clause))) same

pub stays-content : (was now : Option (List Line)) → StayTold was now → HasWhatItHad (log_content was None) (log_content now None)
stays-content None now same = whole_without_torn now
stays-content (Some lines) now same = ap (λ (o : Option (List Line)). log_content o None) same

-- the other lines stay
pub OnlyLearns-learn : (was now : Option (List Line)) (number : ℕ) (clause : List ℕ) → AddsLine was now (line.Learn number clause) → OnlyLearns was now
OnlyLearns-learn None now number clause added = tt
OnlyLearns-learn (Some lines) now number clause added =
    (lines ++ line.Learn number clause ∷ [], added, ap before_learned (reverse-push lines (line.Learn number clause)))

pub OnlyLearns-stay : (was now : Option (List Line)) → StayTold was now → OnlyLearns was now
OnlyLearns-stay None now same = tt
OnlyLearns-stay (Some lines) now same = (lines, same, refl)

-- the lines are those before the last `learn` lines, and these
lines_split : (lines : List Line) → reverse lines ≡ reverse (before_learned lines) ++ map learn_line (last_learned lines)
lines_split [] = refl
lines_split (line.Learn number clause ∷ b) =
    let entry : Learned = record { number = number; clause = clause } in
    let l = line.Learn number clause in
    reverse-append (l ∷ []) b
    ∙ (ap (λ (xs : List Line). xs ++ l ∷ []) (lines_split b)
    ∙ (append_assoc (reverse (before_learned b)) (map learn_line (last_learned b)) (l ∷ [])
    ∙ ap (λ (xs : List Line). reverse (before_learned b) ++ xs) (sym (map-append learn_line (last_learned b) (entry ∷ [])))))
lines_split (line.Head axioms budget facts keep repairs version ∷ b) = sym (append-nil (reverse (line.Head axioms budget facts keep repairs version ∷ b)))
lines_split (line.Cq o query step ∷ b) = sym (append-nil (reverse (line.Cq o query step ∷ b)))
lines_split (line.Conflict facts rule member ∷ b) = sym (append-nil (reverse (line.Conflict facts rule member ∷ b)))
lines_split (line.Ask candidate tuple causes members ∷ b) = sym (append-nil (reverse (line.Ask candidate tuple causes members ∷ b)))
lines_split (line.Try q assume ∷ b) = sym (append-nil (reverse (line.Try q assume ∷ b)))
lines_split (line.Core number kept dropped ∷ b) = sym (append-nil (reverse (line.Core number kept dropped ∷ b)))
lines_split (line.Done h core ∷ b) = sym (append-nil (reverse (line.Done h core ∷ b)))
lines_split (line.Forget clauses ∷ b) = sym (append-nil (reverse (line.Forget clauses ∷ b)))
lines_split (line.Answer brave ar iar cores names tuple ∷ b) = sym (append-nil (reverse (line.Answer brave ar iar cores names tuple ∷ b)))
lines_split (line.End answers brave ar iar undecided ∷ b) = sym (append-nil (reverse (line.End answers brave ar iar undecided ∷ b)))

abbrev clauses_of : Option LogContent → List Learned
clauses_of None = []
clauses_of (Some content) = content.clauses

-- so the lines behind are told by the clauses
lines_told : (old lines : List Line) (entries : List Learned) → before_learned (reverse lines) ≡ before_learned (reverse old)
    → last_learned (reverse lines) ≡ last_learned (reverse old) ++ entries → lines ≡ old ++ map learn_line entries
lines_told old lines entries before last =
    sym (reverse-reverse lines)
    ∙ (lines_split (reverse lines)
    ∙ (ap (λ (xs : List Line). reverse xs ++ map learn_line (last_learned (reverse lines))) before
    ∙ (ap (λ (es : List Learned). reverse (before_learned (reverse old)) ++ map learn_line es) last
    ∙ (ap (λ (xs : List Line). reverse (before_learned (reverse old)) ++ xs) (map-append learn_line (last_learned (reverse old)) entries)
    ∙ (sym (append_assoc (reverse (before_learned (reverse old))) (map learn_line (last_learned (reverse old))) (map learn_line entries))
    ∙ ap (λ (xs : List Line). xs ++ map learn_line entries) (sym (lines_split (reverse old)) ∙ reverse-reverse old))))))

pub AddsLearns-got : (was now : Option (List Line)) (torn : Option Line) (entries : List Learned) → OnlyLearns was now
    → LogGets (log_content was None) (log_content now torn) entries → AddsLearns was now entries
AddsLearns-got None now torn entries only got = tt
AddsLearns-got (Some old) now torn entries (lines, told, same) got =
    let content : log_content (Some lines) torn ≡ Some (record { clauses = last_learned (reverse old) ++ entries; torn = None }) =
    subst (λ (o : Option (List Line)). log_content o torn ≡ Some (record { clauses = last_learned (reverse old) ++ entries; torn = None })) told got in
    told ∙ ap (λ (xs : List Line). Some xs) (lines_told old lines entries same (ap clauses_of content))

pub AddsLearns-failed : (was now : Option (List Line)) (torn : Option Line) (entries : List Learned) (entry : Learned) → OnlyLearns was now
    → LogFailsOn (log_content was None) (log_content now torn) entries entry → AddsLearns was now entries
AddsLearns-failed None now torn entries entry only got = tt
AddsLearns-failed (Some old) now torn entries entry (lines, told, same) got =
    let content : log_content (Some lines) torn ≡ Some (record { clauses = last_learned (reverse old) ++ entries; torn = Some entry }) =
    subst (λ (o : Option (List Line)). log_content o torn ≡ Some (record { clauses = last_learned (reverse old) ++ entries; torn = Some entry })) told got in
    told ∙ ap (λ (xs : List Line). Some xs) (lines_told old lines entries same (ap clauses_of content))

-- the lines of a report over which a search wrote, however it ended
pub AddsLearns-ends : (state : State) (scope assume : List ℕ) (budget : Budget) (was now : Option (List Line)) (torn : Option Line) (f h : ℕ)
    (entries : List Learned) (result : Result Outcome SolveFault) → OnlyLearns was now
    → LogEnds state scope assume budget (log_content was None) (log_content now torn) f h entries result → AddsLearns was now entries
AddsLearns-ends state scope assume budget was now torn f h entries (Ok outcome) only e = AddsLearns-got was now torn entries only e.0
AddsLearns-ends state scope assume budget was now torn f h entries (Err fault.NoMemory) only e = AddsLearns-got was now torn entries only e.0
AddsLearns-ends state scope assume budget was now torn f h entries (Err fault.Log) only e = AddsLearns-failed was now torn entries e.1 only e.2.told

pub torn_of_failed : (f : LineFault) (l : Line) → f ≡ line_fault.Failed → torn_after {T = Unit {0}} (Err f) l ≡ Some l
torn_of_failed f l e = ap (λ (g : LineFault). torn_after {T = Unit {0}} (Err g) l) e
