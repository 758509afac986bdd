use Rattle.std.proofs.Common.{◌≡◌, ◌≤◌, ◌+◌, ℕ, [], get_or, eqb, arith, subst, ◌∙◌}
use Rattle.std.proofs.lemmas.List.{length-replicate}
use Rattle.std.proofs.lemmas.List.Elements.{All-replicate}
use Rattle.priority_graph.specs.Split.{AreSplitEntries, SetsEach}
use Rattle.priority_graph.proofs.SplitLemmas.{split_none, split_more, mark_tells, marks_older}
use Rattle.priority_graph.proofs.split.split_entries.Goals as goal

pub loop-fact-init : goal.loop-fact-init
loop-fact-init c = record {
  split = rw (c.new.ensures.items, c.new-2.ensures.items) (split_none c.args.conflicts.now c.args.listed.now);
  all = rw (c.as_mut_slice-marks.ensures.value, c.in_ok-unmarked.ensures.exact, c.facts.ensures.exact) (length-replicate c.args.conflicts.now.facts 0);
  older = rw (c.as_mut_slice-marks.ensures.value, c.in_ok-unmarked.ensures.exact) (All-replicate (λ mark. mark ≤ 0) c.facts.result 0 (omega arith));
}

pub loop-fact-preserved : goal.loop-fact-preserved
loop-fact-preserved c =
    let places : SetsEach c.loop-fact.marks c.set_each.new.numbers (get_or c.args.listed.now c.loop-fact.fact []) (c.loop-fact.fact + 1) =
    rw c.list.ensures.lent at c.set_each.ensures.exact in
    record {
      split =
          rw (c.in_ok-take.ensures.worse, c.in_ok-take.ensures.blockers)
          (split_more c.args.conflicts.now c.args.listed.now c.loop-fact.fact c.loop-fact.entries.worse.items c.loop-fact.entries.blockers.items
          (λ (j : ℕ). eqb (get_or c.set_each.new.numbers j 0) (c.loop-fact.fact + 1)) c.of.result.now c.loop-fact.invariant.split
          (record {
            are = c.of.ensures.lent;
            ascending = c.of.ensures.ascending;
            exact = c.of.ensures.exact;
            known = c.of.ensures.known;
            few =
                c.of.ensures.few;
          })
          (λ j l. mark_tells c.loop-fact.marks c.set_each.new.numbers _ c.loop-fact.fact places c.loop-fact.invariant.older j
          (omega (arith, c.loop-fact.invariant.all))));
      all = places.all ∙ c.loop-fact.invariant.all;
      older = marks_older c.loop-fact.marks c.set_each.new.numbers _ c.loop-fact.fact places c.loop-fact.invariant.older;
    }

pub returns : goal.returns
returns c =
    let done : c.loop-fact.fact ≡ c.args.conflicts.now.facts = omega arith in
    record {
      exact = subst (λ (n : ℕ). AreSplitEntries c.args.conflicts.now c.args.listed.now n c.loop-fact.entries.worse.items
          c.loop-fact.entries.blockers.items) done c.loop-fact.invariant.split;
    }
