use Rattle.cqapri_cli.proofs.OpenLemmas.{open_is_counted}
use Rattle.cqapri_cli.proofs.report_law.open_is_counted.Goals as goal

pub returns : goal.returns
returns c = open_is_counted
