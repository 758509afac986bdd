use Rattle.std.proofs.Common.{List, ℕ, refl, subst}
use Rattle.answer_evidence.specs.Reached.{Adds}
use Rattle.answer_evidence.proofs.SetLemmas.{Reaches-there, Reaches-component}
use Rattle.answer_evidence.proofs.opening.reach.Goals as goal

pub returns-then-has : goal.returns-then-has
returns-then-has c = record { exact = Reaches-there c.args.conflicts.now c.args.fact c.args.reached.now c.requires.closed (c.if-has.ensures.exact.0 refl) }

pub returns : goal.returns
returns c = record {
  exact = Reaches-component c.args.conflicts.now c.args.fact c.in_ok-facts.facts c.args.reached.now c.put_each.new.set c.requires.closed
      c.in_ok-facts.ensures.exact
      (subst (λ (xs : List ℕ). Adds xs c.args.reached.now c.put_each.new.set) c.as_slice.ensures.lent c.in_ok-put_each.ensures.exact);
}
