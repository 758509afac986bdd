use Rattle.std.proofs.lemmas.Result.{IfOk-weaker}
use Rattle.refutation_confirmer.proofs.SayingLemmas.{says}
use Rattle.refutation_confirmer.proofs.confirming.confirm.Goals as goal

pub read_report-requires : goal.read_report-requires
read_report-requires c = record { fits = c.in_ok-reader.ensures.fits c.args.vocab.now.inds c.args.query.now; small = c.requires.small }

pub returns-clause-says : goal.returns-clause-says
returns-clause-says c = IfOk-weaker c.read_report.result _ _ (λ answer w. says c.args.kb.now c.args.vocab.now.inds c.args.query.now c.args.report.now answer w)
    c.read_report.ensures.says

pub returns-clause-cycle : goal.returns-clause-cycle
returns-clause-cycle c = c.read_report.ensures.cycle
