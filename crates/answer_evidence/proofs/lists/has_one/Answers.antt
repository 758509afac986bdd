use Rattle.std.proofs.Common.{◌∙◌, ℕ, List, subst, [], sym, below_more, true≢false}
use Rattle.std.proofs.lemmas.List.{get_or_default}
use Rattle.clause_meaning.specs.Refutation.{IsWithin}
use Rattle.answer_evidence.proofs.SetLemmas.{each_at}
use Rattle.answer_evidence.proofs.lists.has_one.Goals as goal

pub loop-numbers-preserved : goal.loop-numbers-preserved
loop-numbers-preserved c =
    below_more _ _ c.loop-numbers.invariant (λ w. true≢false (sym (c.if-is_within.ensures.exact.1 (subst (λ (xs : List ℕ). IsWithin xs c.args.list.now)
    (sym (c.as_slice.ensures.lent ∙ (c.numbers-item.is ∙ get_or_default c.args.lists.now c.loop-numbers.numbers-index _ [] c.loop-numbers-test.true))) w))))

pub returns : goal.returns
returns c = record {
  exact = (
    (λ t. absurd (true≢false (sym t))),
    (λ s. absurd (each_at (λ x. ¬ IsWithin x c.args.list.now) c.args.lists.now [] c.loop-numbers.numbers-index c.loop-numbers-test.false
        c.loop-numbers.invariant s.0 s.1 s.2)),
  );
}
