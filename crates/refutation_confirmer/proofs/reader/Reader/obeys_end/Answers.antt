use Rattle.std.proofs.Common.{refl}
use Rattle.refutation_confirmer.proofs.ObeyingLemmas.{tells_end}
use Rattle.refutation_confirmer.proofs.reader.Reader.obeys_end.Goals as goal

pub returns : goal.returns
returns c = record {
  exact = λ kb names q. rw (← c.self.view_is)
      (tells_end kb names q _ c.is_right_end.result c.in-Some.candidates.items c.args.answers c.args.brave c.args.ar c.args.iar c.args.undecided
      (rw c.in-Some.is refl) (rw c.deref.ensures.value at c.is_right_end.ensures.exact));
}
