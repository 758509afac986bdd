use Rattle.std.proofs.Common.{◌≡◌, get_or, sym, ◌∙◌, true≢false, arith}
use Rattle.std.proofs.lemmas.Bool.{eq-eqb}
use Rattle.repair_clauses.specs.BaseClauses.{present}
use Rattle.report_parts.proofs.TestLemmas.{same_lists, other_lists, present_all, present_at}
use Rattle.report_parts.proofs.assumptions.are_present.Goals as goal

pub returns-then-not-is_present_of : goal.returns-then-not-is_present_of
returns-then-not-is_present_of c =
    let k = c.loop-place.place in
    record {
      exact = other_lists c.args.literals.now _ (λ e.
          let same : get_or c.args.literals.now k 0 ≡ present (get_or c.args.facts.now k 0) =
          present_at c.args.literals.now c.args.facts.now e k (omega arith) in
          true≢false (sym (eq-eqb _ _ same) ∙ sym c.if-not-is_present_of.ensures.exact));
    }

pub returns : goal.returns
returns c = record {
  exact = same_lists c.args.literals.now _ (present_all c.args.literals.now c.args.facts.now c.if-literals-facts.false
      (λ k l. c.loop-place.invariant k (omega arith)));
}
