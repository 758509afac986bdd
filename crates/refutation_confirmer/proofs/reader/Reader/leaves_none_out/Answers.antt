use Rattle.std.proofs.Common.{refl}
use Rattle.refutation_confirmer.proofs.FittingLemmas.{all_told}
use Rattle.refutation_confirmer.proofs.ObeyingLemmas.{told_by}
use Rattle.refutation_confirmer.proofs.reader.Reader.leaves_none_out.Goals as goal

pub returns : goal.returns
returns c = record {
  exact = λ kb names q before. rw (← c.self.view_is)
      (λ f. told_by _ _ c.has_told_all.result (rw c.clashes.ensures.lent at c.has_told_all.ensures.exact)
      (all_told kb names q before _ c.in-Some.conflicts c.args.line.now f c.in-Some.is (c.if-not-is_behind_conflicts.ensures.exact.0 refl)));
}
