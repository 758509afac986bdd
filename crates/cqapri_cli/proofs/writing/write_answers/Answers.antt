use Rattle.std.proofs.Common.{sym, subst}
use Rattle.cqapri_words.specs.Jobs.{settings_in}
use Rattle.cqapri_cli.specs.Counts.{status_after}
use Rattle.cqapri_cli.specs.Parts.{TellsRightLines}
use Rattle.cqapri_cli.proofs.JobLemmas.{all_errors}
use Rattle.cqapri_cli.proofs.WritingLemmas.{whole_is_part}
use Rattle.cqapri_cli.proofs.writing.write_answers.Goals as goal

pub returns-in_err-flush-clause-part : goal.returns-in_err-flush-clause-part
returns-in_err-flush-clause-part g c =
    let input = c.args.ready.now.input in
    let old = g.O.Sink.written c.args.out.now in
    let new = g.O.Sink.written c.flush.new.self in
    all_errors _ c.from_residual-in_err-flush.result (λ r first. subst (TellsRightLines input.kb input.vocab.inds input.query) (sym c.flush.ensures.same_bytes)
    (whole_is_part input.kb input.vocab.inds input.query (settings_in c.args.options.now) (g.O.Sink.written c.write_lines.new.out)
    (status_after c.in_ok-counts.counts.undecided) (c.in_ok-counts.ensures.tells first)))

pub returns-clause-tells : goal.returns-clause-tells
returns-clause-tells g c = λ first. rw (c.flush.ensures.same_bytes, c.status_after.ensures.exact) (c.in_ok-counts.ensures.tells first)
