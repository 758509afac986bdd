-- Accepted lines are a right report.
use Rattle.std.proofs.Common.{◌≡◌, ◌≢◌, ℕ, List, [], ◌∷◌, ◌++◌, map, All, Some, refl, sym, subst, ap, ◌∙◌, append-nil}
use Rattle.std.specs.Prelude.{length, reverse}
use Rattle.std.proofs.lemmas.List.{reverse-reverse}
use Rattle.cq_terms.specs.Knowledge.{Knowledge}
use Rattle.cq_terms.specs.Query.{Query}
use Rattle.cq_terms.specs.declared.facts.Repairs.{Repairs}
use Rattle.cq_terms.specs.declared.facts.Repairs.TheVariants as mode
use Rattle.cq_meaning.specs.Repairs.{IsAcyclic}
use Rattle.report_text.specs.LineBytes.{bytes_of}
use Rattle.report_text.specs.Lines.{IsWellFormed}
use Rattle.report_text.specs.Pieces.{LawsOfPieces, pieces_of}
use Rattle.report_text.specs.declared.line.Line.{Line}
use Rattle.report_rules.specs.declared.place.Place.TheVariants.{AtEnd}
use Rattle.report_rules.specs.Accepted.{Accepts}
use Rattle.report_rules.specs.Broken.{HasCycle}
use Rattle.report_rules.specs.Inputs.{report_on}
use Rattle.report_rules.specs.Order.{place_of}
use Rattle.report_laws.specs.CycleLaws.{LawsOfCycles}
use Rattle.report_laws.specs.Laws.{AcceptedIsTrue, IsTrueLine, lines_of, mode_told, tuples_of}
use Rattle.report_laws.specs.Reports.{AcceptedReportIsOfLines, TellsCycle}
use Rattle.cqapri_cli.specs.ReportLaws.{RightLinesSpend}
use Rattle.cqapri_cli.specs.Headline.{IsRightReport}

-- the laws from which it follows
pub record Laws : Type 0 where
  pub true_answers : AcceptedIsTrue
  pub of_lines : AcceptedReportIsOfLines
  pub cycles : LawsOfCycles
  pub pieces : LawsOfPieces
  pub spend : RightLinesSpend

-- the lines among pieces that are all lines
lines_of-map : (lines : List Line) → lines_of (map Some lines) ≡ lines
lines_of-map [] = refl
lines_of-map (x ∷ lines) = ap (λ (xs : List Line). x ∷ xs) (lines_of-map lines)

-- lines that have ended are some
some_lines : (lines : List Line) → place_of lines ≡ AtEnd → lines ≢ []
some_lines lines ended empty = let e = sym ended ∙ ap place_of empty in absurd (cc)

module _ (laws : Laws) (kb : Knowledge) (names : List (List ℕ)) (q : Query) (lines : List Line) (formed : All IsWellFormed lines)
    (accepts : Accepts kb names q lines) where
  -- the pieces of their bytes
  pieces : pieces_of (bytes_of lines) ≡ map Some lines
  pieces = (laws.pieces.lines (bytes_of lines) lines).1 (formed, refl)

  -- and the same from the lines newest first
  same_pieces : map Some (reverse (reverse lines)) ++ [] ≡ pieces_of (bytes_of lines)
  same_pieces = append-nil _ ∙ (ap (λ (xs : List Line). map Some xs) (reverse-reverse lines) ∙ sym pieces)

  no_cycle : (mode : Repairs) → mode_told lines ≡ mode → IsAcyclic kb mode → TellsCycle kb names q (bytes_of lines) → ⊥
  no_cycle mode.Pareto asks acyclic told = laws.cycles.acyclic kb names q (pieces_of (bytes_of lines)) acyclic told
  no_cycle mode.All asks acyclic told = laws.cycles.all_repairs kb names q (reverse lines) [] accepts.right (some_lines (reverse lines) accepts.ended) asks
      (subst (HasCycle kb names q) (sym same_pieces) told)

  answers : length (tuples_of lines) ≡ length (tuples_of (lines_of (pieces_of (bytes_of lines))))
  answers = ap (λ (xs : List Line). length (tuples_of xs)) (sym (ap lines_of pieces ∙ lines_of-map lines))

  pub right : (mode : Repairs) → mode_told lines ≡ mode → IsAcyclic kb mode → IsRightReport kb names q mode lines
  right mode asks acyclic =
      let truth = laws.true_answers kb names q lines accepts (subst (IsAcyclic kb) (sym asks) acyclic) in
      record {
        accepted = accepts;
        asks = asks;
        candidates = truth.0;
        verdicts = subst (λ m. All (IsTrueLine kb m q) lines) asks truth.1;
        confirmed = (
          (laws.of_lines kb names q (bytes_of lines)).1 (lines, record { well_formed = formed; exact = refl; accepted = accepts }),
          no_cycle mode asks acyclic,
          answers,
        );
        spent = laws.spend (report_on kb names q) (reverse lines) accepts.right;
      }
