use Rattle.std.proofs.Common.{◌≡◌, ◌<◌, ◌≤◌, ◌∙◌, ℕ, List, [], length, get_or, subst, arith}
use Rattle.std.proofs.lemmas.List.{get_or_default}
use Rattle.plain_finding.specs.Walks.{Visits}
use Rattle.plain_finding.proofs.WalkLemmas.{walked_cause, walked_more, walked_few, walked_all}
use Rattle.plain_finding.proofs.learnable.learnable_facts.Goals as goal

pub loop-cause-preserved : goal.loop-cause-preserved
loop-cause-preserved c =
    let k = c.loop-cause.cause-index in
    let at : c.as_slice.result.now ≡ get_or c.args.causes.now k [] =
    c.as_slice.ensures.lent ∙ (c.cause-item.is ∙ get_or_default c.args.causes.now k c.cause-item.result [] c.loop-cause-test.true) in
    walked_cause c.args.conflicts.now c.args.causes.now k _ _ _ _ c.loop-cause-test.true c.loop-cause.invariant c.in_ok-visit.ensures.kept
    c.in_ok-visit.ensures.marks
    (subst (λ (facts : List ℕ). Visits c.args.conflicts.now.clashes c.args.conflicts.now.facts c.loop-cause.walk.reached.items
    c.visit.new.self.reached.items facts) at c.in_ok-visit.ensures.exact)

pub loop-next-smaller : goal.loop-next-smaller
loop-next-smaller c =
    let few : length c.loop-next.walk.reached.items ≤ c.args.conflicts.now.facts = walked_few _ _ _ _ _ c.loop-next.invariant in
    omega (arith, few, c.loop-next-test.true, c.len.ensures)

pub loop-next-preserved : goal.loop-next-preserved
loop-next-preserved c =
    let inside : c.loop-next.next < length c.loop-next.walk.reached.items = omega (arith, c.loop-next-test.true, c.len.ensures) in
    walked_more c.args.conflicts.now c.args.causes.now c.loop-next.next _ _ _ _ c.of.result.now c.loop-next.invariant inside
    (rw c.at.ensures at c.of.ensures.exact) c.in_ok-visit-2.ensures.kept c.in_ok-visit-2.ensures.marks c.in_ok-visit-2.ensures.exact

pub returns : goal.returns
returns c =
    let ended : length c.loop-next.walk.reached.items ≤ c.loop-next.next = omega (arith, c.loop-next-test.false, c.len.ensures) in
    record {
      exact = λ kb of. walked_all kb c.args.conflicts.now of c.args.causes.now c.loop-next.next _ _ c.in_ok-facts.facts c.loop-next.invariant ended
          (rw c.as_slice-2.ensures.value at c.in_ok-facts.ensures.exact);
    }
