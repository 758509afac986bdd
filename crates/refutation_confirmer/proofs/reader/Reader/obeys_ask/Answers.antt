use Rattle.std.proofs.Common.{refl}
use Rattle.refutation_confirmer.proofs.ObeyingLemmas.{tells_ask}
use Rattle.refutation_confirmer.proofs.reader.Reader.obeys_ask.Goals as goal

pub returns : goal.returns
returns c = record {
  exact = λ kb names q. rw (← c.self.view_is)
      (tells_ask kb names q _ c.is_right_ask.result c.in-Some.candidates.items c.args.candidate c.args.tuple.now c.args.causes.now c.args.members.now
      (rw c.in-Some.is refl) (rw c.deref.ensures.value at c.is_right_ask.ensures.exact));
}
