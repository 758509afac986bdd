use Rattle.std.proofs.Common.{◌≡◌, List, ℕ, None, refl, sym, subst}
use Rattle.cq_io.specs.Writing.{appended}
use Rattle.cqapri_words.specs.declared.files.File.TheVariants as file
use Rattle.verdict_table.specs.Tables.{table_text}
use Rattle.verdict_table.specs.Whole.{bad_line}
use Rattle.cqapri_cli.specs.Tables.{IsToTabulate, LeavesPrinting, LeavesTable, StopsPrinting, StopsTable}
use Rattle.cqapri_cli.proofs.StopLemmas.{IfErr-of, file_no_output, read_unfailed, write_unfailed}
use Rattle.cqapri_cli.proofs.TableLemmas.{leaves_fetch, leaves_table, printing_no_read_fault, stops_first_fetch, stops_table, whole_report, write_failed}
use Rattle.cqapri_cli.proofs.table_job.tabulate.Goals as goal

pub returns-in_err-bytes-clause-stopped : goal.returns-in_err-bytes-clause-stopped
returns-in_err-bytes-clause-stopped g c =
    let holds = g.S.Shelf.holds c.args.files.now in
    let failing = g.S.Shelf.failing c.args.files.now in
    let name = c.args.report.now in
    let end = stops_first_fetch holds failing name c.in_err-bytes.field-0.0 c.in_err-bytes.ensures.refused c.in_err-bytes.ensures.of_report
    c.in_err-bytes.ensures.told in
    IfErr-of _ _ c.from_residual.result c.from_residual.ensures.1 (λ r e. subst (StopsTable holds failing name) (sym e) end)

pub returns-in_err-bytes-clause-left : goal.returns-in_err-bytes-clause-left
returns-in_err-bytes-clause-left g c =
    let holds = g.S.Shelf.holds c.args.files.now in
    let failing = g.S.Shelf.failing c.args.files.now in
    let name = c.args.report.now in
    let old = g.O.Sink.written c.args.out.now in
    let end = leaves_fetch holds failing name old old c.in_err-bytes.field-0.0 c.in_err-bytes.ensures.of_report refl in
    IfErr-of _ _ c.from_residual.result c.from_residual.ensures.1 (λ r e. subst (LeavesTable holds failing name old old) (sym e) end)

pub returns-in_err-bytes-clause-write_fault : goal.returns-in_err-bytes-clause-write_fault
returns-in_err-bytes-clause-write_fault g c =
    write_unfailed c.from_residual.result c.in_err-bytes.field-0.0 c.from_residual.ensures.1
    (file_no_output file.Report c.in_err-bytes.field-0.0 c.in_err-bytes.ensures.of_report) _ _ refl

pub returns-in_err-print_table-clause-stopped : goal.returns-in_err-print_table-clause-stopped
returns-in_err-print_table-clause-stopped g c =
    let holds = g.S.Shelf.holds c.args.files.now in
    let failing = g.S.Shelf.failing c.args.files.now in
    let name = c.args.report.now in
    let report = c.in_ok-bytes.bytes.items in
    let read : IsToTabulate holds failing name report = record { fetched = c.in_ok-bytes.ensures.exact; told = c.in_ok-bytes.ensures.told } in
    let stop = subst (λ (b : List ℕ). StopsPrinting b c.in_err-print_table.field-0.0) c.deref.ensures.value c.in_err-print_table.ensures.stopped in
    let end = stops_table holds failing name report read c.in_err-print_table.field-0.0 stop in
    IfErr-of _ _ c.from_residual-in_err-print_table.result c.from_residual-in_err-print_table.ensures.1
    (λ r e. subst (StopsTable holds failing name) (sym e) end)

pub returns-in_err-print_table-clause-left : goal.returns-in_err-print_table-clause-left
returns-in_err-print_table-clause-left g c =
    let holds = g.S.Shelf.holds c.args.files.now in
    let failing = g.S.Shelf.failing c.args.files.now in
    let name = c.args.report.now in
    let old = g.O.Sink.written c.args.out.now in
    let new = g.O.Sink.written c.print_table.new.out in
    let report = c.in_ok-bytes.bytes.items in
    let read : IsToTabulate holds failing name report = record { fetched = c.in_ok-bytes.ensures.exact; told = c.in_ok-bytes.ensures.told } in
    let left = subst (λ (b : List ℕ). LeavesPrinting b old new c.in_err-print_table.field-0.0) c.deref.ensures.value c.in_err-print_table.ensures.left in
    let end = leaves_table holds failing name report read old new c.in_err-print_table.field-0.0 left in
    IfErr-of _ _ c.from_residual-in_err-print_table.result c.from_residual-in_err-print_table.ensures.1
    (λ r e. subst (LeavesTable holds failing name old new) (sym e) end)

pub returns-in_err-print_table-clause-read_fault : goal.returns-in_err-print_table-clause-read_fault
returns-in_err-print_table-clause-read_fault g c =
    let none = printing_no_read_fault _ c.in_err-print_table.field-0.0 c.in_err-print_table.ensures.stopped in
    read_unfailed c.from_residual-in_err-print_table.result c.in_err-print_table.field-0.0 c.from_residual-in_err-print_table.ensures.1 none _ _
    c.in_ok-bytes.ensures.fault

pub returns-in_err-print_table-clause-write_fault : goal.returns-in_err-print_table-clause-write_fault
returns-in_err-print_table-clause-write_fault g c =
    write_failed c.from_residual-in_err-print_table.result c.in_err-print_table.field-0.0 c.from_residual-in_err-print_table.ensures.1 _ _
    c.in_err-print_table.ensures.fault

pub returns-clause-tabled : goal.returns-clause-tabled
returns-clause-tabled g c =
    let holds = g.S.Shelf.holds c.args.files.now in
    let failing = g.S.Shelf.failing c.args.files.now in
    let name = c.args.report.now in
    let old = g.O.Sink.written c.args.out.now in
    let new = g.O.Sink.written c.print_table.new.out in
    let report = c.in_ok-bytes.bytes.items in
    let read : IsToTabulate holds failing name report = record { fetched = c.in_ok-bytes.ensures.exact; told = c.in_ok-bytes.ensures.told } in
    record {
      report = report;
      is_whole = whole_report holds failing name report read
          (subst (λ (b : List ℕ). bad_line b ≡ None) c.deref.ensures.value c.in_ok-print_table.ensures.whole);
      written = subst (λ (b : List ℕ). new ≡ appended old (table_text b)) c.deref.ensures.value c.in_ok-print_table.ensures.written;
      ends_so = refl;
    }
