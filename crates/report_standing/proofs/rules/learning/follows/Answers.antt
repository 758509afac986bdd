use Rattle.report_standing.proofs.LearnLemmas.{opposites_below}
use Rattle.report_standing.proofs.rules.learning.follows.Goals as goal

pub refutes-requires : goal.refutes-requires
refutes-requires c = record {
  in_range = rw (c.as_slice.ensures.lent, c.in_ok-against.ensures.exact)
      (opposites_below c.args.clauses.now.variables c.args.clause.now c.requires.in_range);
}
