use Rattle.std.proofs.Common.{length, refl, [], ◌∷◌, ◌∙◌}
use Rattle.report_laws.proofs.ComparisonLemmas as cycles
use Rattle.refutation_confirmer.proofs.FoundLemmas.{found_none}
use Rattle.refutation_confirmer.proofs.reader.Reader.new.Goals as goal

pub returns : goal.returns
returns c = record {
  fits = λ names q. record {
    right = tt;
    standing = c.new.ensures.exact (length c.args.kb.now.facts);
    found = found_none c.args.kb.now (q ∷ []) _ (c.in_ok-plain.ensures.exact ∙ c.facts.ensures.lent) (c.new.ensures.exact (length c.args.kb.now.facts))
        refl refl refl refl refl;
    acyclic = (cycles.laws.stays c.args.kb.now).0;
  };
}
