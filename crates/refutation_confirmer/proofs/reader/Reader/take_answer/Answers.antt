use Rattle.std.proofs.Common.{sym, subst}
use Rattle.refutation_confirmer.specs.State.{AreKnown}
use Rattle.refutation_confirmer.proofs.TakingLemmas.{takes_answer}
use Rattle.refutation_confirmer.proofs.reader.Reader.take_answer.Goals as goal

pub returns : goal.returns
returns c = record {
  taken = rw (← c.self.view_is)
      (takes_answer c.args.kb.now _ c.take_answer.new.self c.in-Some.clauses c.close.new.self c.keep.new.self c.args.brave c.args.ar c.args.iar
      (subst AreKnown (sym c.self.view_is) c.requires.known) c.in-Some.is c.close.ensures.same c.in_ok-keep.ensures.same c.close.ensures.exact
      (rw (c.as_slice.ensures.value, c.in_ok-marks.ensures.exact) at c.in_ok-keep.ensures.exact) c.take_answer.ensures.exact);
}
