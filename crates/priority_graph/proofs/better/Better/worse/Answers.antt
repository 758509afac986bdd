use Rattle.std.proofs.Common.{◌<◌, sym, subst}
use Rattle.priority_graph.specs.Priority.{Priority}
use Rattle.priority_graph.proofs.DirectLemmas.{all_below}
use Rattle.priority_graph.proofs.better.Better.worse.Goals as goal

pub returns-clause-exact : goal.returns-clause-exact
returns-clause-exact c =
    let known : c.args.fact < c.self.inside.facts = subst (λ (p : Priority). c.args.fact < p.facts) (sym c.self.view_is) c.requires.known in
    rw (← c.self.view_is, c.list.ensures.lent) (λ j. c.self.invariant.worse_exact c.args.fact j known)

pub returns-clause-conflicting : goal.returns-clause-conflicting
returns-clause-conflicting c = rw (← c.self.view_is) (c.self.invariant.kept.conflicting c.args.fact)

pub returns-clause-known : goal.returns-clause-known
returns-clause-known c =
    let known : c.args.fact < c.self.inside.facts = subst (λ (p : Priority). c.args.fact < p.facts) (sym c.self.view_is) c.requires.known in
    rw (← c.self.view_is, c.list.ensures.lent)
    (all_below _ c.self.invariant.kept c.args.fact _ (λ j m. c.self.invariant.kept.conflicting c.args.fact j
    ((c.self.invariant.worse_exact c.args.fact j known).0 m)))
