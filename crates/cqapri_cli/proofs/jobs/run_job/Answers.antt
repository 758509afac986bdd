use Rattle.std.proofs.Common.{IfErr, sym, subst}
use Rattle.cqapri_words.specs.Jobs.{request_of}
use Rattle.cqapri_words.specs.declared.words.Job.{Job}
use Rattle.cqapri_cli.specs.Jobs.{Stops}
use Rattle.cqapri_cli.proofs.jobs.run_job.Goals as goal

pub returns-in-Classify-clause-stopped : goal.returns-in-Classify-clause-stopped
returns-in-Classify-clause-stopped g c =
    let holds = g.S.Shelf.holds c.args.files.now in
    let failing = g.S.Shelf.failing c.args.files.now in
    subst (λ (job : Job). IfErr c.classify.result (λ r. Stops holds failing r (request_of job))) (sym c.in-Classify.is) c.classify.ensures.stopped

pub returns-in-Confirm-clause-stopped : goal.returns-in-Confirm-clause-stopped
returns-in-Confirm-clause-stopped g c =
    let holds = g.S.Shelf.holds c.args.files.now in
    let failing = g.S.Shelf.failing c.args.files.now in
    subst (λ (job : Job). IfErr c.confirm_report.result (λ r. Stops holds failing r (request_of job))) (sym c.in-Confirm.is) c.confirm_report.ensures.stopped
