use Rattle.std.proofs.Common.{sym, subst}
use Rattle.refutation_confirmer.specs.State.{AreKnown}
use Rattle.refutation_confirmer.proofs.TakingLemmas.{takes_forget}
use Rattle.refutation_confirmer.proofs.reader.Reader.take_forget.Goals as goal

pub returns : goal.returns
returns c = record {
  taken = rw (← c.self.view_is)
      (takes_forget _ c.take_forget.new.self c.in-Some.clauses c.keep.new.self c.args.numbers.now
      (subst AreKnown (sym c.self.view_is) c.requires.known) c.in-Some.is c.in_ok-keep.ensures.same
      (rw (c.as_slice.ensures.value, c.in_ok-marks.ensures.exact) at c.in_ok-keep.ensures.exact) c.take_forget.ensures.exact);
}
