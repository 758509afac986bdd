-- What the bytes of the output tell of the report.
use Rattle.std.proofs.Common.{◌≡◌, ◌↔◌, ℕ, zero, suc, List, [], ◌∷◌, ◌++◌, take, Option, Some, None, IfSome, All, refl, sym, ap, ◌∙◌, subst, append-nil}
use Rattle.std.specs.Prelude.{◌≢◌, IsSomeAnd, String, reverse, string_bytes}
use Rattle.std.specs.Global.{Global}
use Rattle.std.proofs.Math.Dec.{eqb-suc-zero}
use Rattle.std.proofs.Math.Nat.{suc-ne-zero}
use Rattle.std.proofs.lemmas.List.{reverse-append, reverse-reverse}
use Rattle.cq_terms.specs.Knowledge.{Knowledge}
use Rattle.cq_terms.specs.Query.{Query}
use Rattle.cq_meaning.specs.Repairs.{IsAcyclic}
use Rattle.report_text.specs.LineBytes.{AreBytesOf, bytes_of, line_kept, lines_told}
use Rattle.report_text.specs.Lines.{IsWellFormed, line_of}
use Rattle.report_text.specs.Pieces.{LawsOfPieces}
use Rattle.report_text.specs.declared.line.Line.{Line}
use Rattle.report_rules.specs.Accepted.{AreRight, Right}
use Rattle.report_rules.specs.Inputs.{report_on}
use Rattle.report_rules.specs.Told.{budget_of, keep_of, mode_of}
use Rattle.answer_desk.specs.declared.plan.Plan.{Plan}
use Rattle.classifier.specs.WholeReports.{TellsReport, end_line}
use Rattle.classifier.specs.WholeWriting.{IsRightSoFar}
use Rattle.classifier.specs.declared.summary.Summary.{Summary}
use Rattle.cqapri_words.specs.Words.{Settings}
use Rattle.cqapri_words.specs.declared.status.Status.{Status}
use Rattle.cqapri_words.specs.declared.status.Status.TheVariants as status
use Rattle.cqapri_cli.specs.Counts.{status_after}
use Rattle.cqapri_cli.specs.Headline.{TellsRightReport}
use Rattle.cqapri_cli.specs.Parts.{TellsRightLines}
use Rattle.cqapri_cli.specs.ReportLaws.{AcceptedIsRight, OpenIsCounted}

-- the lines that bytes tell
abbrev pub BytesTellLines : Type 0
BytesTellLines = (written : Option (List ℕ)) (torn : Option Line) (lines : List Line) → IfSome torn IsWellFormed
    → (lines_told written torn ≡ Some lines) ↔ IsSomeAnd written (AreBytesOf lines torn)

-- the status tells whether any answer leaves a question open
pub open_where_some : (undecided : ℕ) → (status_after undecided ≡ status.Open) ↔ (undecided ≢ 0)
open_where_some zero = ((λ e. absurd (let both = e in cc)), (λ apart. absurd (apart refl)))
open_where_some (suc n) = ((λ e none. suc-ne-zero n none), (λ apart. rw (eqb-suc-zero n)))

-- a line whose text was kept is well-formed
pub kept_formed : LawsOfPieces → (text : Option (String Global)) → IfSome (line_kept text) IsWellFormed
unfolding line_kept
kept_formed laws None = tt
kept_formed laws (Some s) = formed (line_of (string_bytes s)) refl
  where
    formed : (o : Option Line) → o ≡ line_of (string_bytes s) → IfSome o IsWellFormed
    formed None e = tt
    formed (Some line) e = (((laws.told (string_bytes s)).0 line).0 (sym e)).0

-- bytes that are told
some_bytes : (written : Option (List ℕ)) (P : List ℕ → Type 0) → IsSomeAnd written P → (bytes : List ℕ) × (written ≡ Some bytes) × P bytes
some_bytes None P w = absurd w
some_bytes (Some bytes) P w = (bytes, refl, w)

-- with no torn line the bytes are those of the lines
whole_bytes : (written : Option (List ℕ)) (lines : List Line) → IsSomeAnd written (AreBytesOf lines None)
    → All IsWellFormed lines × (written ≡ Some (bytes_of lines))
whole_bytes written lines w =
    let (bytes, told, v) = some_bytes written (AreBytesOf lines None) w in
    (v.well_formed, told ∙ ap Some (v.exact ∙ none_torn lines v.part))
  where
    none_torn : (lines : List Line) (part : ℕ) → bytes_of lines ++ take part [] ≡ bytes_of lines
    none_torn lines zero = append-nil (bytes_of lines)
    none_torn lines (suc part) = append-nil (bytes_of lines)

module _ (kb : Knowledge) (texts : List (List ℕ)) (q : Query) where
  -- whole right lines and a part of one more
  pub told_part : BytesTellLines → (written : Option (List ℕ)) (torn : Option Line) → IfSome torn IsWellFormed
      → IsRightSoFar (report_on kb texts q) (lines_told written torn) torn → TellsRightLines kb texts q written
  told_part laws written torn formed w =
      let (bytes, told, v) = some_bytes written (AreBytesOf (reverse w.before) torn) ((laws written torn (reverse w.before) formed).0 w.lines) in
      record {
        bytes = bytes;
        are_told = told;
        lines = reverse w.before;
        torn = torn;
        exact = v;
        right = subst (AreRight (report_on kb texts q)) (sym (reverse-reverse w.before)) w.right;
        torn_right = subst (λ xs. IfSome torn (Right (report_on kb texts q) xs)) (sym (reverse-reverse w.before)) w.torn_right;
      }

  -- a whole report is such a part
  pub whole_is_part : (settings : Settings) (written : Option (List ℕ)) (ends : Status) → TellsRightReport kb texts q settings written ends
      → TellsRightLines kb texts q written
  whole_is_part settings written ends w = record {
    bytes = bytes_of w.lines;
    are_told = w.bytes;
    lines = w.lines;
    torn = None;
    exact = record { well_formed = w.well_formed; part = 0; exact = sym (append-nil (bytes_of w.lines)) };
    right = w.right.accepted.right;
    torn_right = tt;
  }

  -- the lines of a whole report, newest first
  newest_first : (before : List Line) (s : Summary) → reverse (reverse before ++ end_line s ∷ []) ≡ end_line s ∷ before
  newest_first before s = reverse-append (reverse before) (end_line s ∷ []) ∙ ap (λ (xs : List Line). end_line s ∷ xs) (reverse-reverse before)

  pub told_whole : BytesTellLines → AcceptedIsRight → OpenIsCounted → (settings : Settings) (plan : Plan)
      → plan ≡ record { budget = settings.budget; keep = settings.keep; repairs = settings.repairs } → IsAcyclic kb settings.repairs
      → (written : Option (List ℕ)) (torn : Option Line) (s : Summary) (ends : Status) → torn ≡ None
      → TellsReport kb texts q plan (lines_told written torn) s → (ends ≡ status.Open) ↔ (s.undecided ≢ 0)
      → TellsRightReport kb texts q settings written ends
  told_whole laws right counted settings plan same acyclic written torn s ends none w said =
      let lines : List Line = reverse w.before ++ end_line s ∷ [] in
      let told : lines_told written None ≡ Some lines = subst (λ t. lines_told written t ≡ Some lines) none w.lines in
      let (formed, bytes) = whole_bytes written lines ((laws written None lines tt).0 told) in
      let newest : reverse lines ≡ end_line s ∷ w.before = newest_first w.before s in
      let leaves = counted kb texts q w.before s.answers s.brave s.ar s.iar s.undecided w.accepted in
      record {
        lines = lines;
        well_formed = formed;
        bytes = bytes;
        right = right kb texts q settings.repairs lines formed w.accepted (ap mode_of newest ∙ (w.repairs ∙ ap (λ (p : Plan). p.repairs) same)) acyclic;
        budget = ap budget_of newest ∙ (w.budget ∙ ap (λ (p : Plan). p.budget) same);
        keep = ap keep_of newest ∙ (w.keep ∙ ap (λ (p : Plan). p.keep) same);
        leaves_open = ((λ e. leaves.0 (said.0 e)), (λ l. said.1 (leaves.1 l)));
      }
