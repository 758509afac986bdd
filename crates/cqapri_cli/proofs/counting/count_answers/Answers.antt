use Rattle.std.proofs.Common.{inl, sym, ap, ◌∙◌, subst}
use Rattle.cq_io.specs.Faults.{TellsFault}
use Rattle.preparation.specs.Prepared.{IsPrepared}
use Rattle.input_files.specs.Bounds.{IsBounded}
use Rattle.input_files.specs.declared.input.Input.{Input}
use Rattle.cqapri_words.specs.Jobs.{names_in, settings_in}
use Rattle.cqapri_cli.specs.Counts.{CountsAnswers}
use Rattle.cqapri_cli.specs.Ends.{StopsClassify, is_of_output}
use Rattle.cqapri_cli.specs.Limits.{IsWithinLimits}
use Rattle.cqapri_cli.proofs.CountLemmas.{counts_of, memory_reads_none}
use Rattle.cqapri_cli.proofs.JobLemmas.{if_err, if_ok}
use Rattle.cqapri_cli.proofs.StopLemmas.{IfErr-of, file_no_output, preparing_no_fault, read_unfailed, stops_preparing, stops_reading}
use Rattle.cqapri_cli.proofs.counting.count_answers.Goals as goal

pub returns-in_err-input-clause-stopped : goal.returns-in_err-input-clause-stopped
returns-in_err-input-clause-stopped g c =
    let holds = g.S.Shelf.holds c.args.files.now in
    let failing = g.S.Shelf.failing c.args.files.now in
    let names = names_in c.args.paths.now in
    let settings = settings_in c.args.options.now in
    let end = stops_reading holds failing names settings c.in_err-input.field-0.0 c.in_err-input.ensures.refused _ c.in_err-input.ensures.ended in
    IfErr-of _ _ c.from_residual.result c.from_residual.ensures.1 (λ r e. subst (StopsClassify holds failing names settings) (sym e) end)

pub returns-in_err-input-clause-no_output : goal.returns-in_err-input-clause-no_output
returns-in_err-input-clause-no_output g c =
    IfErr-of _ _ c.from_residual.result c.from_residual.ensures.1
    (λ r e. ap is_of_output e ∙ file_no_output c.in_err-input.ensures.ended.0 c.in_err-input.field-0.0 c.in_err-input.ensures.ended.1.of_file)

pub returns-in_err-ready-clause-stopped : goal.returns-in_err-ready-clause-stopped
returns-in_err-ready-clause-stopped g c =
    let holds = g.S.Shelf.holds c.args.files.now in
    let failing = g.S.Shelf.failing c.args.files.now in
    let names = names_in c.args.paths.now in
    let settings = settings_in c.args.options.now in
    let input = c.in_ok-input.input in
    let end = stops_preparing holds failing names settings input.kb input.query input.vocab c.in_ok-input.ensures.exact c.in_ok-input.ensures.succeeded
    c.in_err-ready.field-0.0 c.in_err-ready.ensures.stopped in
    IfErr-of _ _ c.from_residual-in_err-ready.result c.from_residual-in_err-ready.ensures.1
    (λ r e. subst (StopsClassify holds failing names settings) (sym e) end)

pub returns-in_err-ready-clause-no_output : goal.returns-in_err-ready-clause-no_output
returns-in_err-ready-clause-no_output g c =
    IfErr-of _ _ c.from_residual-in_err-ready.result c.from_residual-in_err-ready.ensures.1
    (λ r e. ap is_of_output e ∙ (preparing_no_fault c.in_err-ready.field-0.0 c.in_err-ready.ensures.of_preparing).1)

pub returns-in_err-ready-clause-read_fault : goal.returns-in_err-ready-clause-read_fault
returns-in_err-ready-clause-read_fault g c =
    read_unfailed c.from_residual-in_err-ready.result c.in_err-ready.field-0.0 c.from_residual-in_err-ready.ensures.1
    (preparing_no_fault c.in_err-ready.field-0.0 c.in_err-ready.ensures.of_preparing).0 _ _ c.in_ok-input.ensures.fault

pub count_verdicts-requires-clause-bounded : goal.count_verdicts-requires-clause-bounded
count_verdicts-requires-clause-bounded g c =
    subst (λ (i : Input). IsBounded i.kb i.query i.vocab) (sym c.in_ok-ready.ensures.same) c.in_ok-input.ensures.bounded

pub count_verdicts-requires-clause-prepared : goal.count_verdicts-requires-clause-prepared
count_verdicts-requires-clause-prepared g c =
    subst (λ (i : Input). IsPrepared i.kb i.query c.args.options.now.repairs c.in_ok-ready.ready.prepared) (sym c.in_ok-ready.ensures.same)
    c.in_ok-ready.ensures.prepared

pub count_verdicts-requires-clause-within : goal.count_verdicts-requires-clause-within
count_verdicts-requires-clause-within g c =
    subst (λ (i : Input). IsWithinLimits i.kb i.query (settings_in c.args.options.now)) (sym c.in_ok-ready.ensures.same) c.in_ok-ready.ensures.within

pub returns-clause-counts : goal.returns-clause-counts
returns-clause-counts g c =
    let holds = g.S.Shelf.holds c.args.files.now in
    let failing = g.S.Shelf.failing c.args.files.now in
    let names = names_in c.args.paths.now in
    let settings = settings_in c.args.options.now in
    if_ok _ (CountsAnswers holds failing names settings) c.count_verdicts.result
    (counts_of holds failing names settings c.in_ok-input.input c.in_ok-ready.ready.input c.in_ok-ready.ensures.same c.in_ok-input.ensures.exact
    c.in_ok-input.ensures.succeeded c.in_ok-ready.ensures.within) c.count_verdicts.ensures.counts

pub returns-clause-stopped : goal.returns-clause-stopped
returns-clause-stopped g c = if_err _ _ c.count_verdicts.result (λ r e. inl e) c.count_verdicts.ensures.memory

pub returns-clause-no_output : goal.returns-clause-no_output
returns-clause-no_output g c = if_err _ _ c.count_verdicts.result (λ r e. ap is_of_output e) c.count_verdicts.ensures.memory

pub returns-clause-read_fault : goal.returns-clause-read_fault
returns-clause-read_fault g c =
    subst (TellsFault _ _) (sym (memory_reads_none c.count_verdicts.result c.count_verdicts.ensures.memory)) c.in_ok-input.ensures.fault
