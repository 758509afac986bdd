use Rattle.std.proofs.Common.{Err, ap, sym, ◌∙◌, subst}
use Rattle.cq_io.specs.Faults.{TellsFault}
use Rattle.verdict_table.specs.Tables.{table_text}
use Rattle.verdict_table.specs.declared.fault.TableFault.{TableFault}
use Rattle.cqapri_cli.specs.Ends.{is_of_output}
use Rattle.cqapri_cli.specs.Tables.{LeavesPrinting, StopsPrinting}
use Rattle.cqapri_cli.proofs.StopLemmas.{IfErr-of, all_first}
use Rattle.cqapri_cli.proofs.TableLemmas.{leaves_printing, output_failed, stops_printing}
use Rattle.cqapri_cli.proofs.table_job.print_table.Goals as goal

pub returns-in-Err-clause-stopped : goal.returns-in-Err-clause-stopped
returns-in-Err-clause-stopped g c =
    subst (StopsPrinting c.args.report.now) (sym c.refusal_of.ensures.exact)
    (stops_printing c.args.report.now c.in-Err.fault (λ line e. c.in-Err.ensures.refused line (ap (λ (f : TableFault). Err f) e))
    (λ e. c.in-Err.ensures.failed_behind (ap (λ (f : TableFault). Err f) e)))

pub returns-in-Err-clause-left : goal.returns-in-Err-clause-left
returns-in-Err-clause-left g c =
    let old = g.O.Sink.written c.args.out.now in
    let new = g.O.Sink.written c.write_table.new.out in
    subst (LeavesPrinting c.args.report.now old new) (sym c.refusal_of.ensures.exact)
    (leaves_printing c.args.report.now old new c.in-Err.fault (λ line e. c.in-Err.ensures.refused line (ap (λ (f : TableFault). Err f) e))
    (λ e. c.in-Err.ensures.failed_behind (ap (λ (f : TableFault). Err f) e)) (λ line e. (c.in-Err.ensures.untouched line e).0) c.in-Err.ensures.part)

pub returns-in-Err-clause-fault : goal.returns-in-Err-clause-fault
returns-in-Err-clause-fault g c =
    subst (TellsFault _ _) (output_failed c.in-Err.fault ∙ sym (ap is_of_output c.refusal_of.ensures.exact)) c.in-Err.ensures.fault

pub returns-in_err-flush-in-Ok-clause-left : goal.returns-in_err-flush-in-Ok-clause-left
returns-in_err-flush-in-Ok-clause-left g c =
    let old = g.O.Sink.written c.args.out.now in
    let new = g.O.Sink.written c.flush.new.self in
    let part = all_first old (g.O.Sink.written c.write_table.new.out) new (table_text c.args.report.now) c.in-Ok.ensures.written c.flush.ensures.same_bytes in
    IfErr-of _ _ c.from_residual.result c.from_residual.ensures.1
    (λ r e. subst (LeavesPrinting c.args.report.now old new) (sym e) (c.in-Ok.ensures.whole, part))
