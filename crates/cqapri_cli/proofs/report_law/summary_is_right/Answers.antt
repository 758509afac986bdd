use Rattle.cqapri_cli.proofs.CountLemmas.{summary_is_right}
use Rattle.cqapri_cli.proofs.report_law.summary_is_right.Goals as goal

pub returns : goal.returns
returns c = summary_is_right c.conflicts_tell_bounds.ensures c.exact_lists_are_one.ensures
