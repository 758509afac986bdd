use Rattle.std.proofs.Common.{◌∙◌, sym, arith}
use Rattle.conflict_finder.proofs.Closings.{closure_fits}
use Rattle.conflict_finder.proofs.Shapes.{short_forbidden}
use Rattle.conflict_finder.proofs.closures.closure_of.Goals as goal

pub close-requires-clause-atoms_fit : goal.close-requires-clause-atoms_fit
close-requires-clause-atoms_fit c = let s = (short_forbidden c.args.rule c.in-Some.query (sym c.in_ok-query.ensures.exact ∙ c.in-Some.is)).2 in omega (arith, s)

pub returns-in-Ok-clause-exact : goal.returns-in-Ok-clause-exact
returns-in-Ok-clause-exact c = (
  c.in-Some.query,
  sym c.in_ok-query.ensures.exact ∙ c.in-Some.is,
  c.in-Ok.ensures.closes,
  c.members.ensures.derivation,
  closure_fits c.args.axioms.now c.in-Some.query c.in-Ok.closure c.args.limit c.in-Ok.ensures.exact c.in-Ok.ensures.few,
)
