use Rattle.std.proofs.Common.{inl, ap}
use Rattle.cqapri_cli.specs.Counts.{CountsAnswers}
use Rattle.cqapri_cli.specs.Ends.{StopsClassify, is_of_output}
use Rattle.cqapri_cli.proofs.BenchLemmas.{of_bench}
use Rattle.cqapri_cli.proofs.JobLemmas.{if_err, if_ok}
use Rattle.cqapri_cli.proofs.StopLemmas.{IfErr-of}
use Rattle.cqapri_cli.proofs.bench_job.count_bench.Goals as goal

pub returns-in_err-files-clause-stopped : goal.returns-in_err-files-clause-stopped
returns-in_err-files-clause-stopped c = IfErr-of _ _ c.from_residual.result c.from_residual.ensures.1 (λ r e. inl e)

pub returns-in_err-files-clause-no_output : goal.returns-in_err-files-clause-no_output
returns-in_err-files-clause-no_output c = IfErr-of _ _ c.from_residual.result c.from_residual.ensures.1 (λ r e. ap is_of_output e)

pub returns-clause-counts : goal.returns-clause-counts
returns-clause-counts c = if_ok _ _ c.count_answers.result
    (λ counts w. of_bench (λ h f n s. CountsAnswers h f n s counts) c.args.size _ _ _ _ c.in_ok-files.ensures.holds c.in_ok-files.ensures.never
    c.bench_paths.ensures.exact c.defaults.ensures.exact w) c.count_answers.ensures.counts

pub returns-clause-stopped : goal.returns-clause-stopped
returns-clause-stopped c = if_err _ _ c.count_answers.result
    (λ r w. of_bench (λ h f n s. StopsClassify h f n s r) c.args.size _ _ _ _ c.in_ok-files.ensures.holds c.in_ok-files.ensures.never
    c.bench_paths.ensures.exact c.defaults.ensures.exact w) c.count_answers.ensures.stopped
