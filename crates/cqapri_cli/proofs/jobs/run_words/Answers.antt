use Rattle.std.proofs.Common.{inr, map, string_bytes}
use Rattle.cqapri_words.specs.Jobs.{request_of}
use Rattle.cqapri_cli.specs.Jobs.{Achieves, IsAchieved, IsRefused, Leaves, Stops}
use Rattle.cqapri_cli.proofs.JobLemmas.{if_errs, if_ok}
use Rattle.cqapri_cli.proofs.jobs.run_words.Goals as goal

pub returns-clause-achieved : goal.returns-clause-achieved
returns-clause-achieved g c =
    let words = map string_bytes c.args.words.now in
    let holds = g.S.Shelf.holds c.args.files.now in
    let failing = g.S.Shelf.failing c.args.files.now in
    let old = g.O.Sink.written c.args.out.now in
    let new = g.O.Sink.written c.run_job.new.out in
    let q = request_of c.in_ok-job.job in
    if_ok (λ s. Achieves holds failing old new s q) (IsAchieved holds failing words old new) c.run_job.result
    (λ s a. (q, c.in_ok-job.ensures.found, a)) c.run_job.ensures.achieved

pub returns-clause-refused : goal.returns-clause-refused
returns-clause-refused g c =
    let words = map string_bytes c.args.words.now in
    let holds = g.S.Shelf.holds c.args.files.now in
    let failing = g.S.Shelf.failing c.args.files.now in
    let old = g.O.Sink.written c.args.out.now in
    let new = g.O.Sink.written c.run_job.new.out in
    let q = request_of c.in_ok-job.job in
    if_errs (λ r. Stops holds failing r q) (λ r. Leaves holds failing old new r q) (IsRefused holds failing words old new) c.run_job.result
    (λ r s l. inr (inr (q, c.in_ok-job.ensures.found, s, l))) c.run_job.ensures.stopped c.run_job.ensures.left
