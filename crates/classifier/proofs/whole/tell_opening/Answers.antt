use Rattle.std.proofs.Common.{◌≡◌, ℕ, ◌⊎◌, List, ◌∷◌, [], ◌++◌, length, inl, inr, sym, subst, refl}
use Rattle.std.specs.Prelude.{All}
use Rattle.std.proofs.lemmas.List.Elements.{All-weaker}
use Rattle.cq_terms.specs.declared.hits.Clash.{Clash}
use Rattle.cq_terms.specs.Conflicts.{IsOneOrTwo}
use Rattle.cq_steps.specs.declared.closure.Member.{Member}
use Rattle.report_text.specs.declared.line.Origin.TheVariants as origin
use Rattle.classifier.specs.WholeLines.{HasOneOrTwo, head_line, cq_lines, block_lines, conflict_lines, opening_lines}
use Rattle.classifier.specs.WholeWriting.{AddsLines, StopsAmong, WritesAll}
use Rattle.classifier.proofs.WholeWritingLemmas.{stops_before, stops_behind, stopped_all, writes_behind}
use Rattle.classifier.proofs.whole.tell_opening.Goals as goal

one_or_two : (n : ℕ) (facts : List ℕ) → IsOneOrTwo n facts → (length facts ≡ 1) ⊎ (length facts ≡ 2)
one_or_two n [] h = absurd h
one_or_two n (i ∷ []) h = inl refl
one_or_two n (i ∷ j ∷ []) h = inr refl
one_or_two n (i ∷ j ∷ l ∷ more) h = absurd h

pub tell_conflicts-requires-clause-few : goal.tell_conflicts-requires-clause-few
tell_conflicts-requires-clause-few g c =
    let graph = c.args.found.now.conflicts in
    subst (λ (cs : List Clash). All HasOneOrTwo cs) (sym c.clashes.ensures.lent)
    (All-weaker (λ (x : Clash). IsOneOrTwo graph.facts x.facts) HasOneOrTwo (λ x h. one_or_two graph.facts x.facts h) graph.clashes c.clashes.ensures.kept.each)

pub returns-in_err-tell_head-clause-written : goal.returns-in_err-tell_head-clause-written
returns-in_err-tell_head-clause-written g c =
    let lines = g.L.Report.lines in
    let new = c.tell_head.new.report in
    let found = c.args.found.now in
    stopped_all _ c.from_residual.result c.from_residual.ensures.1 (lines c.args.report.now) (lines new) (g.L.Report.torn new)
    (opening_lines c.args.kb.now c.args.plan.now c.args.closure.now found.closures.items found.conflicts.clashes)
    (stops_before (lines c.args.report.now) (lines new) (g.L.Report.torn new) (head_line c.args.kb.now c.args.plan.now ∷ [])
    (cq_lines origin.Query c.args.closure.now ++ (block_lines found.closures.items ++ conflict_lines found.conflicts.clashes))
    c.in_err-tell_head.ensures.written)

pub returns-in_err-tell_block-clause-written : goal.returns-in_err-tell_block-clause-written
returns-in_err-tell_block-clause-written g c =
    let lines = g.L.Report.lines in
    let old = lines c.args.report.now in
    let mid = lines c.tell_head.new.report in
    let new = lines c.tell_block.new.report in
    let torn = g.L.Report.torn c.tell_block.new.report in
    let found = c.args.found.now in
    let cqs = cq_lines origin.Query c.args.closure.now in
    let later = block_lines found.closures.items ++ conflict_lines found.conflicts.clashes in
    stopped_all _ c.from_residual-in_err-tell_block.result c.from_residual-in_err-tell_block.ensures.1 old new torn
    (opening_lines c.args.kb.now c.args.plan.now c.args.closure.now found.closures.items found.conflicts.clashes)
    (stops_behind old mid new torn (head_line c.args.kb.now c.args.plan.now ∷ []) (cqs ++ later) c.in_ok-tell_head.ensures.written.0
    (stops_before mid new torn cqs later
    (subst (λ (ms : List Member). StopsAmong mid new torn (cq_lines origin.Query ms)) c.members.ensures.lent c.in_err-tell_block.ensures.written)))

pub returns-in_err-tell_blocks-clause-written : goal.returns-in_err-tell_blocks-clause-written
returns-in_err-tell_blocks-clause-written g c =
    let lines = g.L.Report.lines in
    let old = lines c.args.report.now in
    let mid = lines c.tell_head.new.report in
    let next = lines c.tell_block.new.report in
    let new = lines c.tell_blocks.new.report in
    let torn = g.L.Report.torn c.tell_blocks.new.report in
    let found = c.args.found.now in
    let cqs = cq_lines origin.Query c.args.closure.now in
    let blocks = block_lines found.closures.items in
    let conflicts = conflict_lines found.conflicts.clashes in
    stopped_all _ c.from_residual-in_err-tell_blocks.result c.from_residual-in_err-tell_blocks.ensures.1 old new torn
    (opening_lines c.args.kb.now c.args.plan.now c.args.closure.now found.closures.items found.conflicts.clashes)
    (stops_behind old mid new torn (head_line c.args.kb.now c.args.plan.now ∷ []) (cqs ++ (blocks ++ conflicts)) c.in_ok-tell_head.ensures.written.0
    (stops_behind mid next new torn cqs (blocks ++ conflicts)
    (subst (λ (ms : List Member). AddsLines mid next (cq_lines origin.Query ms)) c.members.ensures.lent c.in_ok-tell_block.ensures.written.0)
    (stops_before next new torn blocks conflicts
    (subst (λ (cs : List (ℕ × List Member)). StopsAmong next new torn (block_lines cs)) c.as_slice.ensures.value c.in_err-tell_blocks.ensures.written))))

pub returns-clause-written : goal.returns-clause-written
returns-clause-written g c =
    let lines = g.L.Report.lines in
    let old = lines c.args.report.now in
    let mid = lines c.tell_head.new.report in
    let next = lines c.tell_block.new.report in
    let last = lines c.tell_blocks.new.report in
    let new = lines c.tell_conflicts.new.report in
    let torn = g.L.Report.torn c.tell_conflicts.new.report in
    let found = c.args.found.now in
    let cqs = cq_lines origin.Query c.args.closure.now in
    let blocks = block_lines found.closures.items in
    let conflicts = conflict_lines found.conflicts.clashes in
    let r = c.tell_conflicts.result in
    writes_behind r old mid new torn (head_line c.args.kb.now c.args.plan.now ∷ []) (cqs ++ (blocks ++ conflicts)) c.in_ok-tell_head.ensures.written.0
    (writes_behind r mid next new torn cqs (blocks ++ conflicts)
    (subst (λ (ms : List Member). AddsLines mid next (cq_lines origin.Query ms)) c.members.ensures.lent c.in_ok-tell_block.ensures.written.0)
    (writes_behind r next last new torn blocks conflicts
    (subst (λ (cs : List (ℕ × List Member)). AddsLines next last (block_lines cs)) c.as_slice.ensures.value c.in_ok-tell_blocks.ensures.written.0)
    (subst (λ (cs : List Clash). WritesAll r last new torn (conflict_lines cs)) c.clashes.ensures.lent c.tell_conflicts.ensures.written)))
