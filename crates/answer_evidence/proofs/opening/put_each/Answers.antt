use Rattle.std.proofs.Common.{List, ℕ, sym, subst}
use Rattle.std.proofs.lemmas.List.{take_all, take_more}
use Rattle.answer_evidence.specs.Reached.{Adds}
use Rattle.answer_evidence.proofs.SetLemmas.{Adds-none, Adds-one}
use Rattle.answer_evidence.proofs.opening.put_each.Goals as goal

pub loop-fact-init : goal.loop-fact-init
loop-fact-init c = Adds-none c.args.set.now

pub loop-fact-preserved : goal.loop-fact-preserved
loop-fact-preserved c =
    subst (λ (xs : List ℕ). Adds xs c.args.set.now c.put.new.self) (sym (take_more c.args.facts.now c.loop-fact.fact-index 0 c.loop-fact-test.true))
    (Adds-one _ _ c.args.set.now c.loop-fact.set c.put.new.self c.loop-fact.invariant c.in_ok-put.ensures.exact)

pub returns : goal.returns
returns c =
    record {
      exact = subst (λ (xs : List ℕ). Adds xs c.args.set.now c.loop-fact.set) (take_all c.loop-fact.fact-index c.args.facts.now
          c.loop-fact-test.false) c.loop-fact.invariant;
    }
