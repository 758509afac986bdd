use Rattle.std.proofs.Common.{refl, sym, subst}
use Rattle.cqapri_words.specs.declared.refusal.Refusal.TheVariants as refusal
use Rattle.cqapri_cli.specs.Bench.{LeavesBench, StopsBench}
use Rattle.cqapri_cli.proofs.BenchLemmas.{bench_leaves, bench_reads_none, bench_stops_writing, reads_none}
use Rattle.cqapri_cli.proofs.StopLemmas.{IfErr-of, write_unfailed}
use Rattle.cqapri_cli.proofs.bench_job.bench.Goals as goal

pub returns-in_err-counts-clause-stopped : goal.returns-in_err-counts-clause-stopped
returns-in_err-counts-clause-stopped g c =
    IfErr-of _ _ c.from_residual.result c.from_residual.ensures.1 (λ r e. subst (StopsBench c.args.size) (sym e) c.in_err-counts.ensures.stopped)

pub returns-in_err-counts-clause-left : goal.returns-in_err-counts-clause-left
returns-in_err-counts-clause-left g c =
    let old = g.O.Sink.written c.args.out.now in
    let left = bench_leaves c.args.size old old c.in_err-counts.field-0.0 c.in_err-counts.ensures.no_output refl in
    IfErr-of _ _ c.from_residual.result c.from_residual.ensures.1 (λ r e. subst (LeavesBench c.args.size old old) (sym e) left)

pub returns-in_err-counts-clause-no_read_fault : goal.returns-in_err-counts-clause-no_read_fault
returns-in_err-counts-clause-no_read_fault g c =
    reads_none c.from_residual.result c.in_err-counts.field-0.0 c.from_residual.ensures.1
    (bench_reads_none c.args.size c.in_err-counts.field-0.0 c.in_err-counts.ensures.stopped)

pub returns-in_err-counts-clause-write_fault : goal.returns-in_err-counts-clause-write_fault
returns-in_err-counts-clause-write_fault g c =
    write_unfailed c.from_residual.result c.in_err-counts.field-0.0 c.from_residual.ensures.1 c.in_err-counts.ensures.no_output _ _ refl

pub returns-in_err-write_counts-clause-stopped : goal.returns-in_err-write_counts-clause-stopped
returns-in_err-write_counts-clause-stopped g c =
    IfErr-of _ _ c.from_residual-in_err-write_counts.result c.from_residual-in_err-write_counts.ensures.1
    (λ r e. subst (StopsBench c.args.size) (sym e) (bench_stops_writing c.args.size c.in_ok-counts.counts c.in_ok-counts.ensures.counts))

pub returns-in_err-write_counts-clause-left : goal.returns-in_err-write_counts-clause-left
returns-in_err-write_counts-clause-left g c =
    let old = g.O.Sink.written c.args.out.now in
    let new = g.O.Sink.written c.write_counts.new.out in
    IfErr-of _ _ c.from_residual-in_err-write_counts.result c.from_residual-in_err-write_counts.ensures.1
    (λ r e. subst (LeavesBench c.args.size old new) (sym e) (c.in_ok-counts.counts, c.in_ok-counts.ensures.counts, c.in_err-write_counts.ensures.part))

pub returns-in_err-write_counts-clause-no_read_fault : goal.returns-in_err-write_counts-clause-no_read_fault
returns-in_err-write_counts-clause-no_read_fault g c =
    reads_none c.from_residual-in_err-write_counts.result refusal.WriteFault c.from_residual-in_err-write_counts.ensures.1 refl

pub returns-clause-counts : goal.returns-clause-counts
returns-clause-counts g c = (c.in_ok-counts.counts, c.in_ok-counts.ensures.counts, c.in_ok-write_counts.ensures.exact)
