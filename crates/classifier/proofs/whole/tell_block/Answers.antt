use Rattle.std.proofs.Common.{length, take, drop, ◌+◌, ◌≤◌, ◌∷◌, [], sym, subst, ◌∙◌, rules}
use Rattle.std.proofs.lemmas.List.{take_all}
use Rattle.classifier.specs.WholeLines.{cq_line, cq_lines}
use Rattle.classifier.specs.WholeWriting.{AddsLines}
use Rattle.classifier.proofs.WholeWritingLemmas.{adds_none, adds_more, map_next, map_split, stops_between, stopped_all}
use Rattle.classifier.proofs.whole.tell_block.Goals as goal

pub loop-member-init : goal.loop-member-init
loop-member-init g c = record {
  added = adds_none (g.L.Report.lines c.args.report.now);
  none_torn = c.requires.none_torn;
  faults = search rules;
  target = search rules;
}

pub loop-member-preserved : goal.loop-member-preserved
loop-member-preserved g c =
    let i = c.loop-member.member-index in
    let items = c.args.members.now in
    let item = c.member-item.result in
    let lines = g.L.Report.lines in
    let w = c.in_ok-tell_member.ensures.written in
    record {
      added = subst (AddsLines (lines c.args.report.now) (lines c.tell_member.new.report))
          (sym (map_next (cq_line c.args.origin) items i item c.loop-member-test.true c.member-item.is))
          (adds_more (lines c.args.report.now) (lines c.loop-member.report) (lines c.tell_member.new.report) (cq_lines c.args.origin (take i items))
          (cq_line c.args.origin item ∷ []) c.loop-member.invariant.added w.0);
      none_torn = w.1;
      faults = c.in_ok-tell_member.ensures.fault ∙ c.loop-member.invariant.faults;
      target = c.in_ok-tell_member.ensures.same_target ∙ c.loop-member.invariant.target;
    }

pub returns-in_err-tell_member-clause-written : goal.returns-in_err-tell_member-clause-written
returns-in_err-tell_member-clause-written g c =
    let i = c.loop-member.member-index in
    let items = c.args.members.now in
    let item = c.member-item.result in
    let lines = g.L.Report.lines in
    let torn = g.L.Report.torn c.tell_member.new.report in
    stopped_all _ c.from_residual.result c.from_residual.ensures.1 (lines c.args.report.now) (lines c.tell_member.new.report) torn
    (cq_lines c.args.origin items)
    (stops_between (lines c.args.report.now) (lines c.loop-member.report) (lines c.tell_member.new.report) torn (cq_lines c.args.origin
    (take i items)) (cq_line c.args.origin item ∷ [])
    (cq_lines c.args.origin (drop (i + 1) items)) (cq_lines c.args.origin items) (map_split
    (cq_line c.args.origin) items i item c.loop-member-test.true c.member-item.is)
    c.loop-member.invariant.added c.in_err-tell_member.ensures.written)

pub returns-clause-written : goal.returns-clause-written
returns-clause-written g c =
    let items = c.args.members.now in
    let all : length items ≤ c.loop-member.member-index = c.loop-member-test.false in
    let lines = g.L.Report.lines in (
      subst (λ (xs : _). AddsLines (lines c.args.report.now) (lines c.loop-member.report) (cq_lines c.args.origin xs))
          (take_all c.loop-member.member-index items all)
          c.loop-member.invariant.added,
      c.loop-member.invariant.none_torn,
    )
