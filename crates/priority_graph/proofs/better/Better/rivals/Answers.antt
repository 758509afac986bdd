use Rattle.std.proofs.Common.{ℕ, ◌<◌, ◌≡◌, ◌∙◌, ◌++◌, List, ap}
use Rattle.std.proofs.lemmas.List.Elements.{All-append}
use Rattle.priority_graph.proofs.DirectLemmas.{rivals_more, rivals_all}
use Rattle.priority_graph.proofs.better.Better.rivals.Goals as goal

pub loop-fact-preserved : goal.loop-fact-preserved
loop-fact-preserved c =
    let grown : c.extend_from_slice-in-loop-fact.new.self.items ≡ c.loop-fact.rivals.items ++ c.worse.result.now ++ c.blockers.result.now =
    c.in_ok-extend_from_slice-2.ensures.items ∙ ap (λ (xs : List ℕ). xs ++ c.blockers.result.now) c.in_ok-extend_from_slice.ensures.items in
    record {
      exact = rw grown (rivals_more c.args.self.now c.args.kept.now c.loop-fact.fact-index c.loop-fact.rivals.items c.worse.result.now c.blockers.result.now
          c.loop-fact-test.true
          c.loop-fact.invariant.exact c.worse.ensures.exact c.worse.ensures.conflicting c.blockers.ensures.exact);
      known = rw grown (All-append (λ j. j < c.args.self.now.facts) (c.loop-fact.rivals.items ++ c.worse.result.now) c.blockers.result.now
          (All-append (λ j. j < c.args.self.now.facts) c.loop-fact.rivals.items c.worse.result.now c.loop-fact.invariant.known c.worse.ensures.known)
          c.blockers.ensures.known);
    }

pub returns-clause-exact : goal.returns-clause-exact
returns-clause-exact c = rivals_all c.args.self.now c.args.kept.now c.loop-fact.fact-index c.loop-fact.rivals.items c.loop-fact-test.false
    c.loop-fact.invariant.exact
