use Rattle.refutation_confirmer.proofs.ObeyingLemmas.{tells_core}
use Rattle.refutation_confirmer.proofs.reader.Reader.obeys_core.Goals as goal

pub returns : goal.returns
returns c = record {
  exact = λ kb names q. rw (← c.self.view_is)
      (tells_core kb names q _ c.is_right_core.result c.in-Some.conflicts c.in-Some-better.better c.args.number c.args.kept.now c.args.dropped.now
      c.in-Some.is c.in-Some-better.is
      (λ kb' of. rw (c.as_slice.ensures.lent, c.as_slice-2.ensures.lent) at (c.is_right_core.ensures.exact kb' of)));
}
