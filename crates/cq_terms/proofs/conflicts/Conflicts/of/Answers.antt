use Rattle.std.proofs.Common.{◌<◌, ℕ, sym, subst}
use Rattle.cq_terms.specs.Conflicts.{ConflictGraph}
use Rattle.cq_terms.proofs.ConflictsLemmas.{All-from_contains, in_conflict_below}
use Rattle.cq_terms.proofs.ConflictTablesLemmas.{entries_few}
use Rattle.cq_terms.proofs.conflicts.Conflicts.of.Goals as goal

pub returns-clause-exact : goal.returns-clause-exact
returns-clause-exact c =
    let known : c.args.fact < c.self.inside.facts = subst (λ (g : ConflictGraph). c.args.fact < g.facts) (sym c.self.view_is) c.requires.known in
    rw (← c.self.view_is, c.list.ensures.lent) (c.self.invariant.lists_exact c.args.fact known)

pub returns-clause-known : goal.returns-clause-known
returns-clause-known c =
    let known : c.args.fact < c.self.inside.facts = subst (λ (g : ConflictGraph). c.args.fact < g.facts) (sym c.self.view_is) c.requires.known in
    rw (← c.self.view_is, c.list.ensures.lent)
    (All-from_contains (λ (j : ℕ). j < c.self.inside.facts) _ (λ j h. in_conflict_below c.self.inside.facts c.self.inside.clashes.items c.args.fact j
    c.self.invariant.kept ((c.self.invariant.lists_exact c.args.fact known j).0 h)))

pub returns-clause-few : goal.returns-clause-few
returns-clause-few c = rw (← c.self.view_is) (entries_few c.self.inside.facts c.self.inside.clashes.items c.self.invariant.kept)
