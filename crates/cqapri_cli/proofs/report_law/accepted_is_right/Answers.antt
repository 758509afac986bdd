use Rattle.cqapri_cli.proofs.RightLemmas.{Laws, right}
use Rattle.cqapri_cli.proofs.report_law.accepted_is_right.Goals as goal

pub returns : goal.returns
returns c kb names q mode lines formed accepts asks acyclic = right laws kb names q lines formed accepts mode asks acyclic
  where
    laws : Laws
    laws = record {
      true_answers = c.accepted_is_true.ensures;
      of_lines = c.accepted_report_is_of_lines.ensures;
      cycles = c.laws_of_cycles.ensures;
      pieces = c.laws_of_pieces.ensures;
      spend = c.right_lines_spend.ensures;
    }
