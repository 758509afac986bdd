use Rattle.cqapri_cli.proofs.SpendingLemmas.{right_lines_spend}
use Rattle.cqapri_cli.proofs.report_law.right_lines_spend.Goals as goal

pub returns : goal.returns
returns c = right_lines_spend
