use Rattle.refutation_confirmer.proofs.JudgedLemmas.{with_new_priority, with_new_candidates, fits_then}
use Rattle.refutation_confirmer.proofs.reader.Reader.find_rest.Goals as goal

pub find_candidates-requires : goal.find_candidates-requires
find_candidates-requires c = record {
  told = with_new_priority c.args.kb.now c.args.self.now c.find_priority.new.self c.in_ok-find_priority.ensures.same c.in_ok-find_priority.ensures.fits
      c.requires.told;
}

pub find_clauses-requires-clause-told : goal.find_clauses-requires-clause-told
find_clauses-requires-clause-told c = (
  c.args.kb.now,
  with_new_candidates c.args.kb.now c.find_priority.new.self c.find_candidates.new.self c.in_ok-find_candidates.ensures.same
      c.in_ok-find_candidates.ensures.fits
      (with_new_priority c.args.kb.now c.args.self.now c.find_priority.new.self c.in_ok-find_priority.ensures.same c.in_ok-find_priority.ensures.fits
      c.requires.told),
)

pub returns-clause-fits : goal.returns-clause-fits
returns-clause-fits c =
    fits_then c.find_clauses.result c.args.kb.now c.args.self.now c.find_priority.new.self c.find_candidates.new.self c.find_clauses.new.self
    c.in_ok-find_priority.ensures.fits c.in_ok-find_candidates.ensures.fits
    (with_new_candidates c.args.kb.now c.find_priority.new.self c.find_candidates.new.self c.in_ok-find_candidates.ensures.same
    c.in_ok-find_candidates.ensures.fits
    (with_new_priority c.args.kb.now c.args.self.now c.find_priority.new.self c.in_ok-find_priority.ensures.same c.in_ok-find_priority.ensures.fits
    c.requires.told))
    c.find_clauses.ensures.fits
