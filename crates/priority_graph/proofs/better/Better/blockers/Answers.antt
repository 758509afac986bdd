use Rattle.std.proofs.Common.{◌<◌, sym, subst}
use Rattle.priority_graph.specs.Priority.{Priority}
use Rattle.priority_graph.proofs.DirectLemmas.{all_below}
use Rattle.priority_graph.proofs.better.Better.blockers.Goals as goal

pub returns-clause-exact : goal.returns-clause-exact
returns-clause-exact c =
    let known : c.args.fact < c.self.inside.facts = subst (λ (p : Priority). c.args.fact < p.facts) (sym c.self.view_is) c.requires.known in
    rw (← c.self.view_is, c.list.ensures.lent) (c.self.invariant.blockers_exact c.args.fact known)

pub returns-clause-known : goal.returns-clause-known
returns-clause-known c =
    let known : c.args.fact < c.self.inside.facts = subst (λ (p : Priority). c.args.fact < p.facts) (sym c.self.view_is) c.requires.known in
    rw (← c.self.view_is, c.list.ensures.lent)
    (all_below _ c.self.invariant.kept c.args.fact _ (λ j m. (((c.self.invariant.blockers_exact c.args.fact known).exact j).0 m).0))
