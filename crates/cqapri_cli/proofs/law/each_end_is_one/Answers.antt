use Rattle.cqapri_cli.proofs.EndLemmas.{each_end_is_one}
use Rattle.cqapri_cli.proofs.law.each_end_is_one.Goals as goal

pub returns : goal.returns
returns c = each_end_is_one (record { reading = c.one_reading.ensures.law; ends = c.one_end.ensures.files; report = c.one_end.ensures.report })
