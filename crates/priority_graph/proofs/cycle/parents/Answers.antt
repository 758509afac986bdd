use Rattle.std.proofs.Common.{◌≡◌, ◌∙◌, length, drop, [], get_or}
use Rattle.std.proofs.lemmas.List.{take_at}
use Rattle.priority_graph.specs.Split.{SetsEach}
use Rattle.priority_graph.proofs.CycleLemmas.{parents_more, parents_kept, parents_all}
use Rattle.priority_graph.proofs.cycle.parents.Goals as goal
use Rattle.priority_graph.proofs.cycle.parents.Goals.{then-count-ne0, else-count-ne0}

pub loop-fact-preserved : goal.loop-fact-preserved
loop-fact-preserved c = elim c.if-count-ne0.branch [
  | then-count-ne0 w ↦
      let places : SetsEach c.loop-fact.parents w.set_each.new.numbers (get_or c.args.lists.now c.loop-fact.fact []) c.loop-fact.fact =
      rw w.list.ensures.lent at w.set_each.ensures.exact in
      rw w.parents-is (parents_more c.args.lists.now c.args.counts.now c.loop-fact.parents w.set_each.new.numbers c.loop-fact.fact c.loop-fact.invariant
      c.loop-fact-test.true w.if-count-ne0.true places)
  | else-count-ne0 w ↦ rw w.parents-is (parents_kept c.args.lists.now c.args.counts.now c.loop-fact.parents c.loop-fact.fact c.loop-fact.invariant
      w.if-count-ne0.false)
]

pub returns : goal.returns
returns c =
    let same : length c.loop-fact.parents ≡ c.in_ok-blank.blank.len = c.loop-fact.auto.parents ∙ c.as_mut_slice-parents.ensures.len in
    record {
      exact = rw (take_at c.loop-fact.parents (drop (length c.loop-fact.parents) c.in_ok-blank.blank.items) c.in_ok-blank.blank.len same)
          (parents_all c.args.lists.now c.args.counts.now c.loop-fact.parents c.loop-fact.fact c.loop-fact.invariant c.loop-fact-test.false);
    }
