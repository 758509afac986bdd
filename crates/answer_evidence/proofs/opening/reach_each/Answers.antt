use Rattle.std.proofs.Common.{List, ℕ, sym, subst}
use Rattle.std.proofs.lemmas.List.{take_all, take_more}
use Rattle.answer_evidence.specs.Reached.{Reaches}
use Rattle.answer_evidence.proofs.SetLemmas.{Reaches-none, Reaches-more}
use Rattle.answer_evidence.proofs.opening.reach_each.Goals as goal

pub loop-fact-init : goal.loop-fact-init
loop-fact-init c = Reaches-none c.args.conflicts.now c.args.reached.now c.requires.closed

pub reach-requires-clause-closed : goal.reach-requires-clause-closed
reach-requires-clause-closed c = c.loop-fact.invariant.closed

pub loop-fact-preserved : goal.loop-fact-preserved
loop-fact-preserved c =
    subst (λ (xs : List ℕ). Reaches c.args.conflicts.now xs c.args.reached.now c.reach.new.reached)
    (sym (take_more c.args.facts.now c.loop-fact.fact-index 0 c.loop-fact-test.true))
    (Reaches-more c.args.conflicts.now _ _ c.args.reached.now c.loop-fact.reached c.reach.new.reached c.loop-fact.invariant c.in_ok-reach.ensures.exact)

pub returns : goal.returns
returns c =
    record {
      exact = subst (λ (xs : List ℕ). Reaches c.args.conflicts.now xs c.args.reached.now c.loop-fact.reached)
          (take_all c.loop-fact.fact-index c.args.facts.now c.loop-fact-test.false) c.loop-fact.invariant;
    }
