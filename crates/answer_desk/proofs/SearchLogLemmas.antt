-- A search over a report: its learned clauses have their lines, and after a fault the torn line is that of a clause that may be learned.
use Rattle.std.proofs.Common.{◌≡◌, ℕ, List, ◌++◌, Option, Some, None, Result, Err, inl, inr, refl, sym, subst, ap, ◌∙◌}
use Rattle.std.specs.Prelude.{reverse}
use Rattle.std.proofs.lemmas.Option.{none-some}
use Rattle.report_text.specs.declared.line.Line.{Line}
use Rattle.proof_logs.specs.Logs.{Learned, LogContent}
use Rattle.cdcl_core.specs.Solving.{LogEnds, cleared}
use Rattle.cdcl_core.specs.State.{State}
use Rattle.cdcl_core.specs.declared.outcome.Budget.{Budget}
use Rattle.cdcl_core.specs.declared.outcome.Outcome.{Outcome}
use Rattle.cdcl_core.specs.declared.outcome.SolveFault.{SolveFault}
use Rattle.cdcl_core.specs.declared.outcome.SolveFault.TheVariants as fault
use Rattle.answer_evidence.specs.Logging.{last_learned, learn_line, as_learned, torn_clause, log_content, OnlyLearns, TearsLearn, AddsLearns}
use Rattle.answer_evidence.proofs.LoggingLemmas.{AddsLearns-ends}
use Rattle.answer_desk.specs.Trying.{BreaksSearch}

-- ---- the torn line of a search

abbrev torn_in : Option LogContent → Option Learned
torn_in None = None
torn_in (Some content) = content.torn

-- no torn line, where the log has no torn clause
not_torn : (torn : Option Line) → torn_clause torn ≡ None → torn ≡ None
not_torn None e = refl
not_torn (Some l) e = absurd (none-some (as_learned l) (sym e))

abbrev line_of : Option Learned → Option Line
line_of None = None
line_of (Some entry) = Some (learn_line entry)

-- or the line of the torn clause
torn_learned : (torn : Option Line) (entry : Learned) → TearsLearn None torn → torn_clause torn ≡ Some entry → torn ≡ Some (learn_line entry)
torn_learned torn entry (inl none) e = absurd (none-some entry (sym (ap torn_clause none) ∙ e))
torn_learned torn entry (inr w) e = w.1 ∙ ap line_of (sym (ap torn_clause w.1) ∙ e)

torn_told : (lines : List Line) (now : Option (List Line)) (torn : Option Line) (clauses : List Learned) (t : Option Learned) → now ≡ Some lines
    → log_content now torn ≡ Some (record { clauses = clauses; torn = t }) → torn_clause torn ≡ t
torn_told lines now torn clauses t told got =
    ap torn_in (subst (λ (o : Option (List Line)). log_content o torn ≡ Some (record { clauses = clauses; torn = t })) told got)

-- a search that a fault broke off over a report without a torn line
pub BreaksSearch-ends : (state : State) (scope assume : List ℕ) (budget : Budget) (was now : Option (List Line)) (torn : Option Line) (f h : ℕ)
    (entries : List Learned) (x : SolveFault) → OnlyLearns was now → TearsLearn None torn
    → LogEnds (cleared state) scope assume budget (log_content was None) (log_content now torn) f h entries (Err x)
    → BreaksSearch state scope assume budget was torn
BreaksSearch-ends state scope assume budget None now torn f h entries x only tears e = tt
BreaksSearch-ends state scope assume budget (Some old) now torn f h entries fault.NoMemory only tears e =
    inl (not_torn torn (torn_told only.0 now torn (last_learned (reverse old) ++ entries) None only.1 e.0))
BreaksSearch-ends state scope assume budget (Some old) now torn f h entries fault.Log only tears e =
    inr (
      e.1,
      e.2.may,
      e.2.affords,
      torn_learned torn e.1 tears
          (torn_told only.0 now torn (last_learned (reverse old) ++ entries) (Some e.1) only.1 e.2.told),
    )

-- ---- the same over a report, which is the one that the log began with

module _ {R : Type 0} (lines : R → Option (List Line)) (torn : R → Option Line) (faults : R → ℕ) (state : State) (scope assume : List ℕ)
    (budget : Budget) (start begun ended : R) (entries : List Learned) (result : Result Outcome SolveFault) (same : begun ≡ start)
    (whole : torn start ≡ None) (only : OnlyLearns (lines begun) (lines ended))
    (ends : LogEnds (cleared state) scope assume budget (log_content (lines begun) (torn begun)) (log_content (lines ended) (torn ended)) (faults begun)
    (faults ended) entries result) where
  only_start : OnlyLearns (lines start) (lines ended)
  only_start = subst (λ (r : R). OnlyLearns (lines r) (lines ended)) same only

  ends_start : LogEnds (cleared state) scope assume budget (log_content (lines start) None) (log_content (lines ended) (torn ended)) (faults start)
      (faults ended) entries result
  ends_start =
      subst (λ (t : Option Line). LogEnds (cleared state) scope assume budget (log_content (lines start) t) (log_content (lines ended) (torn ended))
      (faults start) (faults ended) entries result) whole
      (subst (λ (r : R). LogEnds (cleared state) scope assume budget (log_content (lines r) (torn r)) (log_content (lines ended) (torn ended)) (faults r)
      (faults ended) entries result) same ends)

  pub search_adds : AddsLearns (lines start) (lines ended) entries
  search_adds = AddsLearns-ends (cleared state) scope assume budget (lines start) (lines ended) (torn ended) (faults start) (faults ended) entries result
      only_start ends_start

  pub search_breaks : (x : SolveFault) → result ≡ Err x → TearsLearn (torn begun) (torn ended)
      → BreaksSearch state scope assume budget (lines start) (torn ended)
  search_breaks x is tears =
      BreaksSearch-ends state scope assume budget (lines start) (lines ended) (torn ended) (faults start) (faults ended) entries x only_start
      (subst (λ (t : Option Line). TearsLearn t (torn ended)) (ap torn same ∙ whole) tears)
      (subst (λ (r : Result Outcome SolveFault). LogEnds (cleared state) scope assume budget (log_content (lines start) None)
      (log_content (lines ended) (torn ended)) (faults start) (faults ended) entries r) is ends_start)
