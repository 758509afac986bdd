-- One mark is skipped, or there is none.
use Rattle.std.proofs.Common.{sym, ◌∙◌}
use Rattle.axiom_reader.proofs.LineLemmas.{skip_more, skip_none}
use Rattle.axiom_reader.proofs.lines.skip_marks.Goals as goal

pub loop-rest-preserved : goal.loop-rest-preserved
loop-rest-preserved c =
    let bytes = c.args.bytes.now in
    let rest = c.loop-rest.rest.now in
    let marked = sym c.starts_with.ensures.value ∙ c.loop-rest-test.true in
    skip_more bytes rest marked (c.starts_with.ensures.bound c.loop-rest-test.true) c.loop-rest.invariant

pub returns-clause-exact : goal.returns-clause-exact
returns-clause-exact c = sym (skip_none _ (sym c.starts_with.ensures.value ∙ c.loop-rest-test.false)) ∙ c.loop-rest.invariant.0
