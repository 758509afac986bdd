use Rattle.std.proofs.Common.{refl, sym, subst}
use Rattle.cq_io.specs.Faults.{TellsFault}
use Rattle.preparation.specs.Prepared.{IsPrepared}
use Rattle.input_files.specs.Bounds.{IsBounded}
use Rattle.input_files.specs.declared.input.Input.{Input}
use Rattle.cqapri_cli.specs.Limits.{IsWithinLimits}
use Rattle.cqapri_words.specs.Jobs.{names_in, settings_in}
use Rattle.cqapri_cli.specs.Ends.{StopsClassify}
use Rattle.cqapri_cli.specs.Leaving.{LeavesClassify}
use Rattle.cqapri_cli.proofs.StopLemmas.{IfErr-of, file_no_output, leaves_file, leaves_preparing, preparing_no_fault, read_unfailed, stops_preparing}
use Rattle.cqapri_cli.specs.Headline.{Answers}
use Rattle.cqapri_cli.specs.Leaving.{IsOfWriting}
use Rattle.cqapri_cli.proofs.JobLemmas.{if_err, if_ok}
use Rattle.cqapri_cli.proofs.StopLemmas.{answers_of, if_err_both, leaves_part, stops_reading, stops_writing, write_unfailed, writing_reads_none}
use Rattle.cqapri_cli.proofs.classify_job.classify.Goals as goal

pub returns-in_err-input-clause-stopped : goal.returns-in_err-input-clause-stopped
returns-in_err-input-clause-stopped g c =
    let holds = g.S.Shelf.holds c.args.files.now in
    let failing = g.S.Shelf.failing c.args.files.now in
    let names = names_in c.args.paths.now in
    let settings = settings_in c.args.options.now in
    let end = stops_reading holds failing names settings c.in_err-input.field-0.0 c.in_err-input.ensures.refused _ c.in_err-input.ensures.ended in
    IfErr-of _ _ c.from_residual.result c.from_residual.ensures.1 (λ r e. subst (StopsClassify holds failing names settings) (sym e) end)

pub returns-in_err-input-clause-left : goal.returns-in_err-input-clause-left
returns-in_err-input-clause-left g c =
    let holds = g.S.Shelf.holds c.args.files.now in
    let failing = g.S.Shelf.failing c.args.files.now in
    let names = names_in c.args.paths.now in
    let settings = settings_in c.args.options.now in
    let old = g.O.Sink.written c.args.out.now in
    let end = leaves_file holds failing names settings old old c.in_err-input.ensures.ended.0 c.in_err-input.field-0.0
    c.in_err-input.ensures.ended.1.of_file refl in
    IfErr-of _ _ c.from_residual.result c.from_residual.ensures.1 (λ r e. subst (LeavesClassify holds failing names settings old old) (sym e) end)

pub returns-in_err-input-clause-write_fault : goal.returns-in_err-input-clause-write_fault
returns-in_err-input-clause-write_fault g c =
    write_unfailed c.from_residual.result c.in_err-input.field-0.0 c.from_residual.ensures.1
    (file_no_output c.in_err-input.ensures.ended.0 c.in_err-input.field-0.0 c.in_err-input.ensures.ended.1.of_file) _ _ refl

pub write_answers-requires-clause-bounded : goal.write_answers-requires-clause-bounded
write_answers-requires-clause-bounded g c =
    subst (λ (i : Input). IsBounded i.kb i.query i.vocab) (sym c.in_ok-ready.ensures.same) c.in_ok-input.ensures.bounded

pub write_answers-requires-clause-prepared : goal.write_answers-requires-clause-prepared
write_answers-requires-clause-prepared g c =
    subst (λ (i : Input). IsPrepared i.kb i.query c.args.options.now.repairs c.in_ok-ready.ready.prepared) (sym c.in_ok-ready.ensures.same)
    c.in_ok-ready.ensures.prepared

pub write_answers-requires-clause-within : goal.write_answers-requires-clause-within
write_answers-requires-clause-within g c =
    subst (λ (i : Input). IsWithinLimits i.kb i.query (settings_in c.args.options.now)) (sym c.in_ok-ready.ensures.same) c.in_ok-ready.ensures.within

pub returns-in_err-ready-clause-stopped : goal.returns-in_err-ready-clause-stopped
returns-in_err-ready-clause-stopped g c =
    let holds = g.S.Shelf.holds c.args.files.now in
    let failing = g.S.Shelf.failing c.args.files.now in
    let names = names_in c.args.paths.now in
    let settings = settings_in c.args.options.now in
    let old = g.O.Sink.written c.args.out.now in
    let input = c.in_ok-input.input in
    let end = stops_preparing holds failing names settings input.kb input.query input.vocab c.in_ok-input.ensures.exact
    c.in_ok-input.ensures.succeeded c.in_err-ready.field-0.0
    c.in_err-ready.ensures.stopped in
    IfErr-of _ _ c.from_residual-in_err-ready.result c.from_residual-in_err-ready.ensures.1
    (λ r e. subst (StopsClassify holds failing names settings) (sym e) end)

pub returns-in_err-ready-clause-left : goal.returns-in_err-ready-clause-left
returns-in_err-ready-clause-left g c =
    let holds = g.S.Shelf.holds c.args.files.now in
    let failing = g.S.Shelf.failing c.args.files.now in
    let names = names_in c.args.paths.now in
    let settings = settings_in c.args.options.now in
    let old = g.O.Sink.written c.args.out.now in
    let input = c.in_ok-input.input in
    let end = leaves_preparing holds failing names settings old old c.in_err-ready.field-0.0 c.in_err-ready.ensures.of_preparing refl in
    IfErr-of _ _ c.from_residual-in_err-ready.result c.from_residual-in_err-ready.ensures.1
    (λ r e. subst (LeavesClassify holds failing names settings old old) (sym e) end)

pub returns-in_err-ready-clause-read_fault : goal.returns-in_err-ready-clause-read_fault
returns-in_err-ready-clause-read_fault g c =
    let holds = g.S.Shelf.holds c.args.files.now in
    let failing = g.S.Shelf.failing c.args.files.now in
    let names = names_in c.args.paths.now in
    let settings = settings_in c.args.options.now in
    let old = g.O.Sink.written c.args.out.now in
    let input = c.in_ok-input.input in
    read_unfailed c.from_residual-in_err-ready.result c.in_err-ready.field-0.0 c.from_residual-in_err-ready.ensures.1
    (preparing_no_fault c.in_err-ready.field-0.0 c.in_err-ready.ensures.of_preparing).0 _ _ c.in_ok-input.ensures.fault

pub returns-in_err-ready-clause-write_fault : goal.returns-in_err-ready-clause-write_fault
returns-in_err-ready-clause-write_fault g c =
    let holds = g.S.Shelf.holds c.args.files.now in
    let failing = g.S.Shelf.failing c.args.files.now in
    let names = names_in c.args.paths.now in
    let settings = settings_in c.args.options.now in
    let old = g.O.Sink.written c.args.out.now in
    let input = c.in_ok-input.input in
    write_unfailed c.from_residual-in_err-ready.result c.in_err-ready.field-0.0 c.from_residual-in_err-ready.ensures.1
    (preparing_no_fault c.in_err-ready.field-0.0 c.in_err-ready.ensures.of_preparing).1 _ _ refl

pub returns-clause-answers : goal.returns-clause-answers
returns-clause-answers g c =
    let holds = g.S.Shelf.holds c.args.files.now in
    let failing = g.S.Shelf.failing c.args.files.now in
    let names = names_in c.args.paths.now in
    let settings = settings_in c.args.options.now in
    let old = g.O.Sink.written c.args.out.now in
    let input = c.in_ok-input.input in
    let new = g.O.Sink.written c.write_answers.new.out in
    if_ok _ (Answers holds failing names settings old new) c.write_answers.result
    (answers_of holds failing names settings input c.in_ok-ready.ready.input c.in_ok-ready.ensures.same c.in_ok-input.ensures.exact
    c.in_ok-input.ensures.succeeded c.in_ok-ready.ensures.within old new) c.write_answers.ensures.tells

pub returns-clause-stopped : goal.returns-clause-stopped
returns-clause-stopped g c =
    let holds = g.S.Shelf.holds c.args.files.now in
    let failing = g.S.Shelf.failing c.args.files.now in
    let names = names_in c.args.paths.now in
    let settings = settings_in c.args.options.now in
    let old = g.O.Sink.written c.args.out.now in
    let input = c.in_ok-input.input in
    if_err IsOfWriting (StopsClassify holds failing names settings) c.write_answers.result
    (stops_writing holds failing names settings input.kb input.query input.vocab c.in_ok-input.ensures.exact c.in_ok-input.ensures.succeeded
    c.in_ok-ready.ensures.within) c.write_answers.ensures.of_writing

pub returns-clause-left : goal.returns-clause-left
returns-clause-left g c =
    let holds = g.S.Shelf.holds c.args.files.now in
    let failing = g.S.Shelf.failing c.args.files.now in
    let names = names_in c.args.paths.now in
    let settings = settings_in c.args.options.now in
    let old = g.O.Sink.written c.args.out.now in
    let input = c.in_ok-input.input in
    let new = g.O.Sink.written c.write_answers.new.out in
    if_err_both IsOfWriting _ (LeavesClassify holds failing names settings old new) c.write_answers.result
    (leaves_part holds failing names settings input c.in_ok-ready.ready.input c.in_ok-ready.ensures.same c.in_ok-input.ensures.exact
    c.in_ok-input.ensures.succeeded c.in_ok-ready.ensures.within old new) c.write_answers.ensures.of_writing c.write_answers.ensures.part

pub returns-clause-read_fault : goal.returns-clause-read_fault
returns-clause-read_fault g c =
    let holds = g.S.Shelf.holds c.args.files.now in
    let failing = g.S.Shelf.failing c.args.files.now in
    let names = names_in c.args.paths.now in
    let settings = settings_in c.args.options.now in
    let old = g.O.Sink.written c.args.out.now in
    let input = c.in_ok-input.input in
    subst (TellsFault _ _) (sym (writing_reads_none c.write_answers.result c.write_answers.ensures.of_writing)) c.in_ok-input.ensures.fault
