use Rattle.std.proofs.Common.{List, length, take, drop, ◌+◌, ◌≤◌, sym, subst, ◌∙◌, rules}
use Rattle.std.proofs.lemmas.List.{take_all}
use Rattle.cq_steps.specs.declared.closure.Member.{Member}
use Rattle.report_text.specs.declared.line.Origin.TheVariants as origin
use Rattle.classifier.specs.WholeLines.{cq_lines, negative_lines, block_lines}
use Rattle.classifier.specs.WholeWriting.{AddsLines, StopsAmong}
use Rattle.classifier.proofs.WholeWritingLemmas.{adds_none, adds_more, flat_next, flat_split, stops_between, stopped_all}
use Rattle.classifier.proofs.whole.tell_blocks.Goals as goal

pub loop-closure-init : goal.loop-closure-init
loop-closure-init g c = record {
  added = adds_none (g.L.Report.lines c.args.report.now);
  none_torn = c.requires.none_torn;
  faults = search rules;
  target = search rules;
}

pub loop-closure-preserved : goal.loop-closure-preserved
loop-closure-preserved g c =
    let i = c.loop-closure.closure-index in
    let items = c.args.closures.now in
    let item = c.closure-item.result in
    let lines = g.L.Report.lines in
    let w = c.in_ok-tell_block.ensures.written in
    record {
      added = subst (AddsLines (lines c.args.report.now) (lines c.tell_block.new.report))
          (sym (flat_next (negative_lines) items i item c.loop-closure-test.true c.closure-item.is))
          (adds_more (lines c.args.report.now) (lines c.loop-closure.report) (lines c.tell_block.new.report) (block_lines (take i items))
          (negative_lines item) c.loop-closure.invariant.added (subst (λ (ms : List Member). AddsLines (lines c.loop-closure.report)
          (lines c.tell_block.new.report) (cq_lines (origin.Negative item.0) ms)) c.members.ensures.lent w.0));
      none_torn = w.1;
      faults = c.in_ok-tell_block.ensures.fault ∙ c.loop-closure.invariant.faults;
      target = c.in_ok-tell_block.ensures.same_target ∙ c.loop-closure.invariant.target;
    }

pub returns-in_err-tell_block-clause-written : goal.returns-in_err-tell_block-clause-written
returns-in_err-tell_block-clause-written g c =
    let i = c.loop-closure.closure-index in
    let items = c.args.closures.now in
    let item = c.closure-item.result in
    let lines = g.L.Report.lines in
    let torn = g.L.Report.torn c.tell_block.new.report in
    stopped_all _ c.from_residual.result c.from_residual.ensures.1 (lines c.args.report.now) (lines c.tell_block.new.report) torn (block_lines items)
    (stops_between (lines c.args.report.now) (lines c.loop-closure.report) (lines c.tell_block.new.report) torn (block_lines (take i items))
    (negative_lines item)
    (block_lines (drop (i + 1) items)) (block_lines items) (flat_split (negative_lines) items i item c.loop-closure-test.true c.closure-item.is)
    c.loop-closure.invariant.added (subst (λ (ms : List Member). StopsAmong (lines c.loop-closure.report) (lines c.tell_block.new.report) torn
    (cq_lines (origin.Negative item.0) ms)) c.members.ensures.lent c.in_err-tell_block.ensures.written))

pub returns-clause-written : goal.returns-clause-written
returns-clause-written g c =
    let items = c.args.closures.now in
    let all : length items ≤ c.loop-closure.closure-index = c.loop-closure-test.false in
    let lines = g.L.Report.lines in (
      subst (λ (xs : _). AddsLines (lines c.args.report.now) (lines c.loop-closure.report) (block_lines xs)) (take_all c.loop-closure.closure-index items all)
          c.loop-closure.invariant.added,
      c.loop-closure.invariant.none_torn,
    )
