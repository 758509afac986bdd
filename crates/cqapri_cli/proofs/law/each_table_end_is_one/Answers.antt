use Rattle.cqapri_cli.proofs.TableLemmas.{each_table_end_is_one}
use Rattle.cqapri_cli.proofs.law.each_table_end_is_one.Goals as goal

pub returns : goal.returns
returns c = each_table_end_is_one c.one_end.ensures.report
