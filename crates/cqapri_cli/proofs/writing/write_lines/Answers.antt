use Rattle.std.proofs.Common.{rules, subst}
use Rattle.report_text.specs.LineBytes.{line_kept}
use Rattle.cqapri_words.specs.Jobs.{settings_in}
use Rattle.answer_desk.specs.declared.plan.Plan.{Plan}
use Rattle.classifier.specs.WholeReports.{CountsHolding, IsSummaryOver}
use Rattle.cqapri_cli.specs.Counts.{status_after}
use Rattle.cqapri_cli.specs.Headline.{TellsRightReport}
use Rattle.cqapri_cli.specs.Parts.{TellsRightLines}
use Rattle.cqapri_cli.proofs.WritingLemmas.{kept_formed, open_where_some, told_part, told_whole}
use Rattle.cqapri_cli.proofs.PreparingLemmas.{facts_below, head_below}
use Rattle.cqapri_cli.proofs.writing.write_lines.Goals as goal

pub write_report-written-requires-clause-facts_named : goal.write_report-written-requires-clause-facts_named
write_report-written-requires-clause-facts_named g c =
    facts_below c.args.input.now.kb c.args.input.now.query c.args.input.now.vocab c.requires.bounded

pub write_report-written-requires-clause-head_named : goal.write_report-written-requires-clause-head_named
write_report-written-requires-clause-head_named g c =
    head_below c.args.input.now.kb c.args.input.now.query c.args.input.now.vocab c.requires.bounded

pub returns-in-Ok-clause-counts : goal.returns-in-Ok-clause-counts
returns-in-Ok-clause-counts g c =
    let input = c.args.input.now in
    let prepared = c.args.prepared.now in
    let counts = c.in-Ok.counts in
    c.summary_is_right.ensures input.kb input.query (settings_in c.args.options.now) prepared counts c.requires.prepared
    (subst (λ (p : Plan). IsSummaryOver prepared.found.conflicts prepared.better p prepared.candidates.items counts) c.plan_of-plan.ensures.exact
    c.in-Ok.ensures.said)
    (subst (λ (p : Plan). CountsHolding input.kb p.repairs input.query prepared.candidates.items counts) c.plan_of-plan.ensures.exact
    c.in-Ok.ensures.counts)

pub returns-in-Ok-clause-tells : goal.returns-in-Ok-clause-tells
returns-in-Ok-clause-tells g c = λ first.
    let input = c.args.input.now in
    let settings = settings_in c.args.options.now in
    let counts = c.in-Ok.counts in
    subst (λ (o : _). TellsRightReport input.kb input.vocab.inds input.query settings (g.O.Sink.written o) (status_after counts.undecided)) (search rules)
    (told_whole input.kb input.vocab.inds input.query c.bytes_tell_their_lines.ensures c.accepted_is_right.ensures c.open_is_counted.ensures
    settings c.plan_of-plan.result c.plan_of-plan.ensures.exact c.requires.within.acyclic
    (g.O.Sink.written c.write_report-written.new.report.sink.now) (line_kept c.write_report-written.new.report.torn) counts (status_after counts.undecided)
    c.in-Ok.ensures.none_torn (c.in-Ok.ensures.right (c.new-report.ensures.no_lines first)) (open_where_some counts.undecided))

pub returns-in-Err-Report-clause-part : goal.returns-in-Err-Report-clause-part
returns-in-Err-Report-clause-part g c = λ first.
    let input = c.args.input.now in
    subst (λ (o : _). TellsRightLines input.kb input.vocab.inds input.query (g.O.Sink.written o)) (search rules)
    (told_part input.kb input.vocab.inds input.query c.bytes_tell_their_lines.ensures (g.O.Sink.written c.write_report-written.new.report.sink.now)
    (line_kept c.write_report-written.new.report.torn) (kept_formed c.laws_of_pieces.ensures c.write_report-written.new.report.torn)
    (c.in-Err-Report.ensures-1.right (c.new-report.ensures.no_lines first)))

pub returns-in-Err-NoMemory-clause-part : goal.returns-in-Err-NoMemory-clause-part
returns-in-Err-NoMemory-clause-part g c = λ first.
    let input = c.args.input.now in
    subst (λ (o : _). TellsRightLines input.kb input.vocab.inds input.query (g.O.Sink.written o)) (search rules)
    (told_part input.kb input.vocab.inds input.query c.bytes_tell_their_lines.ensures (g.O.Sink.written c.write_report-written.new.report.sink.now)
    (line_kept c.write_report-written.new.report.torn) (kept_formed c.laws_of_pieces.ensures c.write_report-written.new.report.torn)
    (c.in-Err-NoMemory.ensures-1.right (c.new-report.ensures.no_lines first)))
