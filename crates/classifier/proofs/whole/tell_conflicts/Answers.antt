use Rattle.std.proofs.Common.{length, take, drop, ◌+◌, ◌≤◌, ◌∷◌, [], sym, subst, ◌∙◌, rules}
use Rattle.std.proofs.lemmas.List.{take_all}
use Rattle.classifier.specs.WholeLines.{conflict_line, conflict_lines}
use Rattle.classifier.specs.WholeWriting.{AddsLines}
use Rattle.classifier.proofs.WholeWritingLemmas.{adds_none, adds_more, map_next, map_split, stops_between, stopped_all}
use Rattle.classifier.proofs.whole.tell_conflicts.Goals as goal

pub loop-clash-init : goal.loop-clash-init
loop-clash-init g c = record {
  added = adds_none (g.L.Report.lines c.args.report.now);
  none_torn = c.requires.none_torn;
  faults = search rules;
  target = search rules;
}

pub loop-clash-preserved : goal.loop-clash-preserved
loop-clash-preserved g c =
    let i = c.loop-clash.clash-index in
    let items = c.args.clashes.now in
    let item = c.clash-item.result in
    let lines = g.L.Report.lines in
    let w = c.in_ok-tell_conflict.ensures.written in
    record {
      added = subst (AddsLines (lines c.args.report.now) (lines c.tell_conflict.new.report))
          (sym (map_next (conflict_line) items i item c.loop-clash-test.true c.clash-item.is))
          (adds_more (lines c.args.report.now) (lines c.loop-clash.report) (lines c.tell_conflict.new.report) (conflict_lines (take i items))
          (conflict_line item ∷ []) c.loop-clash.invariant.added w.0);
      none_torn = w.1;
      faults = c.in_ok-tell_conflict.ensures.fault ∙ c.loop-clash.invariant.faults;
      target = c.in_ok-tell_conflict.ensures.same_target ∙ c.loop-clash.invariant.target;
    }

pub returns-in_err-tell_conflict-clause-written : goal.returns-in_err-tell_conflict-clause-written
returns-in_err-tell_conflict-clause-written g c =
    let i = c.loop-clash.clash-index in
    let items = c.args.clashes.now in
    let item = c.clash-item.result in
    let lines = g.L.Report.lines in
    let torn = g.L.Report.torn c.tell_conflict.new.report in
    stopped_all _ c.from_residual.result c.from_residual.ensures.1 (lines c.args.report.now) (lines c.tell_conflict.new.report) torn (conflict_lines items)
    (stops_between (lines c.args.report.now) (lines c.loop-clash.report) (lines c.tell_conflict.new.report) torn (conflict_lines (take i items))
    (conflict_line item ∷ [])
    (conflict_lines (drop (i + 1) items)) (conflict_lines items) (map_split (conflict_line) items i item c.loop-clash-test.true c.clash-item.is)
    c.loop-clash.invariant.added c.in_err-tell_conflict.ensures.written)

pub returns-clause-written : goal.returns-clause-written
returns-clause-written g c =
    let items = c.args.clashes.now in
    let all : length items ≤ c.loop-clash.clash-index = c.loop-clash-test.false in
    let lines = g.L.Report.lines in (
      subst (λ (xs : _). AddsLines (lines c.args.report.now) (lines c.loop-clash.report) (conflict_lines xs)) (take_all c.loop-clash.clash-index items all)
          c.loop-clash.invariant.added,
      c.loop-clash.invariant.none_torn,
    )
