use Rattle.std.proofs.Common.{◌∙◌, ℕ, List, subst, [], sym, below_more, true≢false}
use Rattle.std.proofs.lemmas.List.{get_or_default}
use Rattle.clause_meaning.specs.Refutation.{IsWithin}
use Rattle.answer_evidence.proofs.SetLemmas.{each_at}
use Rattle.answer_evidence.proofs.fact_set.FactSet.has_one.Goals as goal

pub loop-list-preserved : goal.loop-list-preserved
loop-list-preserved c =
    below_more _ _ c.loop-list.invariant (λ w. true≢false
    (sym (c.if-has_all.ensures.exact.1 (subst (λ (xs : List ℕ). IsWithin xs c.args.self.now)
    (sym (c.as_slice.ensures.lent ∙ (c.list-item.is ∙ get_or_default c.args.lists.now c.loop-list.list-index _ [] c.loop-list-test.true))) w))))

pub returns : goal.returns
returns c = record {
  exact = (
    (λ t. absurd (true≢false (sym t))),
    (λ s. absurd (each_at (λ x. ¬ IsWithin x c.args.self.now) c.args.lists.now [] c.loop-list.list-index c.loop-list-test.false c.loop-list.invariant
        s.0 s.1 s.2)),
  );
}
