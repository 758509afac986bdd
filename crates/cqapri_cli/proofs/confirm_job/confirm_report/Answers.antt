use Rattle.std.proofs.Common.{ℕ, List, refl, sym, ◌∙◌, subst}
use Rattle.cqapri_words.specs.Jobs.{names_in}
use Rattle.cqapri_words.specs.declared.files.File.TheVariants as file
use Rattle.refutation_confirmer.specs.Saying.{Says}
use Rattle.cqapri_cli.specs.Ends.{StopsConfirm}
use Rattle.cqapri_cli.specs.Leaving.{LeavesConfirm}
use Rattle.cqapri_cli.specs.Verdicts.{StopsJudging, WritesFirstOfVerdict}
use Rattle.cqapri_cli.proofs.StopLemmas.{IfErr-of, confirm_leaves, confirm_stops_reading, confirm_stops_writing, file_no_output, judges, judging_no_fault}
use Rattle.cqapri_cli.proofs.StopLemmas.{read_failed, read_unfailed, stops_at_report, stops_judging, to_confirm, write_unfailed}
use Rattle.cqapri_cli.proofs.confirm_job.confirm_report.Goals as goal

pub returns-in_err-input-clause-stopped : goal.returns-in_err-input-clause-stopped
returns-in_err-input-clause-stopped g c =
    let holds = g.S.Shelf.holds c.args.files.now in
    let failing = g.S.Shelf.failing c.args.files.now in
    let names = names_in c.args.paths.now in
    let name = c.args.report.now in
    let end = confirm_stops_reading holds failing names name c.in_err-input.field-0.0 c.in_err-input.ensures.refused _ c.in_err-input.ensures.ended in
    IfErr-of _ _ c.from_residual.result c.from_residual.ensures.1 (λ r e. subst (StopsConfirm holds failing names name) (sym e) end)

pub returns-in_err-input-clause-left : goal.returns-in_err-input-clause-left
returns-in_err-input-clause-left g c =
    let holds = g.S.Shelf.holds c.args.files.now in
    let failing = g.S.Shelf.failing c.args.files.now in
    let names = names_in c.args.paths.now in
    let name = c.args.report.now in
    let old = g.O.Sink.written c.args.out.now in
    let end = confirm_leaves holds failing names name old old c.in_err-input.field-0.0
    (file_no_output c.in_err-input.ensures.ended.0 c.in_err-input.field-0.0 c.in_err-input.ensures.ended.1.of_file) refl in
    IfErr-of _ _ c.from_residual.result c.from_residual.ensures.1 (λ r e. subst (LeavesConfirm holds failing names name old old) (sym e) end)

pub returns-in_err-input-clause-write_fault : goal.returns-in_err-input-clause-write_fault
returns-in_err-input-clause-write_fault g c =
    write_unfailed c.from_residual.result c.in_err-input.field-0.0 c.from_residual.ensures.1
    (file_no_output c.in_err-input.ensures.ended.0 c.in_err-input.field-0.0 c.in_err-input.ensures.ended.1.of_file) _ _ refl

pub returns-in_err-bytes-clause-stopped : goal.returns-in_err-bytes-clause-stopped
returns-in_err-bytes-clause-stopped g c =
    let holds = g.S.Shelf.holds c.args.files.now in
    let failing = g.S.Shelf.failing c.args.files.now in
    let names = names_in c.args.paths.now in
    let name = c.args.report.now in
    let old = g.O.Sink.written c.args.out.now in
    let input = c.in_ok-input.input in
    let mid_holds = g.S.Shelf.holds c.read_input.new.files in
    let mid = g.S.Shelf.failing c.read_input.new.files in
    let end = stops_at_report holds mid_holds c.in_ok-input.ensures.same_files failing mid names name c.in_ok-input.ensures.after input.kb input.query
    input.vocab c.in_ok-input.ensures.exact c.in_ok-input.ensures.succeeded c.in_err-bytes.field-0.0 c.in_err-bytes.ensures.refused
    c.in_err-bytes.ensures.of_report
    c.in_err-bytes.ensures.told in
    IfErr-of _ _ c.from_residual-in_err-bytes.result c.from_residual-in_err-bytes.ensures.1 (λ r e. subst (StopsConfirm holds failing names name) (sym e) end)

pub returns-in_err-bytes-clause-left : goal.returns-in_err-bytes-clause-left
returns-in_err-bytes-clause-left g c =
    let holds = g.S.Shelf.holds c.args.files.now in
    let failing = g.S.Shelf.failing c.args.files.now in
    let names = names_in c.args.paths.now in
    let name = c.args.report.now in
    let old = g.O.Sink.written c.args.out.now in
    let input = c.in_ok-input.input in
    let mid_holds = g.S.Shelf.holds c.read_input.new.files in
    let mid = g.S.Shelf.failing c.read_input.new.files in
    let end = confirm_leaves holds failing names name old old c.in_err-bytes.field-0.0
    (file_no_output file.Report c.in_err-bytes.field-0.0 c.in_err-bytes.ensures.of_report) refl in
    IfErr-of _ _ c.from_residual-in_err-bytes.result c.from_residual-in_err-bytes.ensures.1
    (λ r e. subst (LeavesConfirm holds failing names name old old) (sym e) end)

pub returns-in_err-bytes-clause-write_fault : goal.returns-in_err-bytes-clause-write_fault
returns-in_err-bytes-clause-write_fault g c =
    let holds = g.S.Shelf.holds c.args.files.now in
    let failing = g.S.Shelf.failing c.args.files.now in
    let names = names_in c.args.paths.now in
    let name = c.args.report.now in
    let old = g.O.Sink.written c.args.out.now in
    let input = c.in_ok-input.input in
    let mid_holds = g.S.Shelf.holds c.read_input.new.files in
    let mid = g.S.Shelf.failing c.read_input.new.files in
    write_unfailed c.from_residual-in_err-bytes.result c.in_err-bytes.field-0.0 c.from_residual-in_err-bytes.ensures.1
    (file_no_output file.Report c.in_err-bytes.field-0.0 c.in_err-bytes.ensures.of_report) _ _ refl

pub returns-in_err-bytes-clause-read_fault : goal.returns-in_err-bytes-clause-read_fault
returns-in_err-bytes-clause-read_fault g c =
    let holds = g.S.Shelf.holds c.args.files.now in
    let failing = g.S.Shelf.failing c.args.files.now in
    let names = names_in c.args.paths.now in
    let name = c.args.report.now in
    let old = g.O.Sink.written c.args.out.now in
    let input = c.in_ok-input.input in
    let mid_holds = g.S.Shelf.holds c.read_input.new.files in
    let mid = g.S.Shelf.failing c.read_input.new.files in
    read_failed c.from_residual-in_err-bytes.result c.in_err-bytes.field-0.0 c.from_residual-in_err-bytes.ensures.1 _ _ _ c.in_ok-input.ensures.fault
    c.in_err-bytes.ensures.fault

pub returns-in_err-verdict-clause-stopped : goal.returns-in_err-verdict-clause-stopped
returns-in_err-verdict-clause-stopped g c =
    let holds = g.S.Shelf.holds c.args.files.now in
    let failing = g.S.Shelf.failing c.args.files.now in
    let names = names_in c.args.paths.now in
    let name = c.args.report.now in
    let old = g.O.Sink.written c.args.out.now in
    let input = c.in_ok-input.input in
    let mid_holds = g.S.Shelf.holds c.read_input.new.files in
    let mid = g.S.Shelf.failing c.read_input.new.files in
    let read = to_confirm holds mid_holds c.in_ok-input.ensures.same_files failing mid names name c.in_ok-input.ensures.after input.kb input.query input.vocab
    c.in_ok-input.ensures.exact c.in_ok-input.ensures.succeeded c.in_ok-bytes.bytes.items c.in_ok-bytes.ensures.exact c.in_ok-bytes.ensures.told in
    let stop = subst (λ (b : List ℕ). StopsJudging input.kb input.query input.vocab b c.in_err-verdict.field-0.0) c.deref.ensures.value
    c.in_err-verdict.ensures.stopped in
    let none = judging_no_fault input.kb input.query input.vocab c.in_ok-bytes.bytes.items c.in_err-verdict.field-0.0 stop in
    let end = stops_judging holds failing names name input.kb input.query input.vocab c.in_ok-bytes.bytes.items read c.in_err-verdict.field-0.0 stop in
    IfErr-of _ _ c.from_residual-in_err-verdict.result c.from_residual-in_err-verdict.ensures.1
    (λ r e. subst (StopsConfirm holds failing names name) (sym e) end)

pub returns-in_err-verdict-clause-left : goal.returns-in_err-verdict-clause-left
returns-in_err-verdict-clause-left g c =
    let holds = g.S.Shelf.holds c.args.files.now in
    let failing = g.S.Shelf.failing c.args.files.now in
    let names = names_in c.args.paths.now in
    let name = c.args.report.now in
    let old = g.O.Sink.written c.args.out.now in
    let input = c.in_ok-input.input in
    let mid_holds = g.S.Shelf.holds c.read_input.new.files in
    let mid = g.S.Shelf.failing c.read_input.new.files in
    let stop = subst (λ (b : List ℕ). StopsJudging input.kb input.query input.vocab b c.in_err-verdict.field-0.0) c.deref.ensures.value
    c.in_err-verdict.ensures.stopped in
    let none = judging_no_fault input.kb input.query input.vocab c.in_ok-bytes.bytes.items c.in_err-verdict.field-0.0 stop in
    let end = confirm_leaves holds failing names name old old c.in_err-verdict.field-0.0 none.1 refl in
    IfErr-of _ _ c.from_residual-in_err-verdict.result c.from_residual-in_err-verdict.ensures.1
    (λ r e. subst (LeavesConfirm holds failing names name old old) (sym e) end)

pub returns-in_err-verdict-clause-read_fault : goal.returns-in_err-verdict-clause-read_fault
returns-in_err-verdict-clause-read_fault g c =
    let holds = g.S.Shelf.holds c.args.files.now in
    let failing = g.S.Shelf.failing c.args.files.now in
    let names = names_in c.args.paths.now in
    let name = c.args.report.now in
    let old = g.O.Sink.written c.args.out.now in
    let input = c.in_ok-input.input in
    let mid_holds = g.S.Shelf.holds c.read_input.new.files in
    let mid = g.S.Shelf.failing c.read_input.new.files in
    let stop = subst (λ (b : List ℕ). StopsJudging input.kb input.query input.vocab b c.in_err-verdict.field-0.0) c.deref.ensures.value
    c.in_err-verdict.ensures.stopped in
    let none = judging_no_fault input.kb input.query input.vocab c.in_ok-bytes.bytes.items c.in_err-verdict.field-0.0 stop in
    read_unfailed c.from_residual-in_err-verdict.result c.in_err-verdict.field-0.0 c.from_residual-in_err-verdict.ensures.1 none.0 _ _
    (c.in_ok-bytes.ensures.fault ∙ c.in_ok-input.ensures.fault)

pub returns-in_err-verdict-clause-write_fault : goal.returns-in_err-verdict-clause-write_fault
returns-in_err-verdict-clause-write_fault g c =
    let holds = g.S.Shelf.holds c.args.files.now in
    let failing = g.S.Shelf.failing c.args.files.now in
    let names = names_in c.args.paths.now in
    let name = c.args.report.now in
    let old = g.O.Sink.written c.args.out.now in
    let input = c.in_ok-input.input in
    let mid_holds = g.S.Shelf.holds c.read_input.new.files in
    let mid = g.S.Shelf.failing c.read_input.new.files in
    let stop = subst (λ (b : List ℕ). StopsJudging input.kb input.query input.vocab b c.in_err-verdict.field-0.0) c.deref.ensures.value
    c.in_err-verdict.ensures.stopped in
    let none = judging_no_fault input.kb input.query input.vocab c.in_ok-bytes.bytes.items c.in_err-verdict.field-0.0 stop in
    write_unfailed c.from_residual-in_err-verdict.result c.in_err-verdict.field-0.0 c.from_residual-in_err-verdict.ensures.1 none.1 _ _ refl

pub returns-in_err-write_verdict-clause-stopped : goal.returns-in_err-write_verdict-clause-stopped
returns-in_err-write_verdict-clause-stopped g c =
    let holds = g.S.Shelf.holds c.args.files.now in
    let failing = g.S.Shelf.failing c.args.files.now in
    let names = names_in c.args.paths.now in
    let name = c.args.report.now in
    let old = g.O.Sink.written c.args.out.now in
    let input = c.in_ok-input.input in
    let mid_holds = g.S.Shelf.holds c.read_input.new.files in
    let mid = g.S.Shelf.failing c.read_input.new.files in
    let read = to_confirm holds mid_holds c.in_ok-input.ensures.same_files failing mid names name c.in_ok-input.ensures.after input.kb input.query input.vocab
    c.in_ok-input.ensures.exact c.in_ok-input.ensures.succeeded c.in_ok-bytes.bytes.items c.in_ok-bytes.ensures.exact c.in_ok-bytes.ensures.told in
    let judged = judges holds failing names name input.kb input.query input.vocab c.in_ok-bytes.bytes.items read c.in_ok-verdict.verdict
    (subst (λ (b : List ℕ). Says input.kb input.vocab.inds input.query b c.in_ok-verdict.verdict) c.deref.ensures.value c.in_ok-verdict.ensures.says) in
    let end = confirm_stops_writing holds failing names name c.in_ok-verdict.verdict judged in
    IfErr-of _ _ c.from_residual-in_err-write_verdict.result c.from_residual-in_err-write_verdict.ensures.1
    (λ r e. subst (StopsConfirm holds failing names name) (sym e) end)

pub returns-in_err-write_verdict-clause-left : goal.returns-in_err-write_verdict-clause-left
returns-in_err-write_verdict-clause-left g c =
    let holds = g.S.Shelf.holds c.args.files.now in
    let failing = g.S.Shelf.failing c.args.files.now in
    let names = names_in c.args.paths.now in
    let name = c.args.report.now in
    let old = g.O.Sink.written c.args.out.now in
    let input = c.in_ok-input.input in
    let mid_holds = g.S.Shelf.holds c.read_input.new.files in
    let mid = g.S.Shelf.failing c.read_input.new.files in
    let read = to_confirm holds mid_holds c.in_ok-input.ensures.same_files failing mid names name c.in_ok-input.ensures.after input.kb input.query input.vocab
    c.in_ok-input.ensures.exact c.in_ok-input.ensures.succeeded c.in_ok-bytes.bytes.items c.in_ok-bytes.ensures.exact c.in_ok-bytes.ensures.told in
    let judged = judges holds failing names name input.kb input.query input.vocab c.in_ok-bytes.bytes.items read c.in_ok-verdict.verdict
    (subst (λ (b : List ℕ). Says input.kb input.vocab.inds input.query b c.in_ok-verdict.verdict) c.deref.ensures.value c.in_ok-verdict.ensures.says) in
    let new = g.O.Sink.written c.write_verdict.new.out in
    let end : WritesFirstOfVerdict holds failing names name old new =
    record { verdict = c.in_ok-verdict.verdict; judges = judged; written = c.in_err-write_verdict.ensures.part } in
    IfErr-of _ _ c.from_residual-in_err-write_verdict.result c.from_residual-in_err-write_verdict.ensures.1
    (λ r e. subst (LeavesConfirm holds failing names name old new) (sym e) end)

pub returns-clause-judged : goal.returns-clause-judged
returns-clause-judged g c =
    let holds = g.S.Shelf.holds c.args.files.now in
    let failing = g.S.Shelf.failing c.args.files.now in
    let names = names_in c.args.paths.now in
    let name = c.args.report.now in
    let old = g.O.Sink.written c.args.out.now in
    let input = c.in_ok-input.input in
    let mid_holds = g.S.Shelf.holds c.read_input.new.files in
    let mid = g.S.Shelf.failing c.read_input.new.files in
    let read = to_confirm holds mid_holds c.in_ok-input.ensures.same_files failing mid names name c.in_ok-input.ensures.after input.kb input.query input.vocab
    c.in_ok-input.ensures.exact c.in_ok-input.ensures.succeeded c.in_ok-bytes.bytes.items c.in_ok-bytes.ensures.exact c.in_ok-bytes.ensures.told in
    let judged = judges holds failing names name input.kb input.query input.vocab c.in_ok-bytes.bytes.items read c.in_ok-verdict.verdict
    (subst (λ (b : List ℕ). Says input.kb input.vocab.inds input.query b c.in_ok-verdict.verdict) c.deref.ensures.value c.in_ok-verdict.ensures.says) in
    record {
      verdict = c.in_ok-verdict.verdict;
      judges = judged;
      written = c.in_ok-write_verdict.ensures.exact;
      ends_so = c.status_of.ensures.exact;
    }
