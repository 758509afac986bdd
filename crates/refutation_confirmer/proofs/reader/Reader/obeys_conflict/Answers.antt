use Rattle.refutation_confirmer.proofs.ObeyingLemmas.{tells_conflict}
use Rattle.refutation_confirmer.proofs.reader.Reader.obeys_conflict.Goals as goal

pub returns : goal.returns
returns c = record {
  exact = λ kb names q. rw (← c.self.view_is)
      (tells_conflict kb names q _ c.is_right_conflict.result c.in-Some.conflicts c.args.facts.now c.args.axiom c.args.member c.in-Some.is
      c.is_right_conflict.ensures.exact);
}
