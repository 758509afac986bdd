use Rattle.std.proofs.Common.{◌≡◌, [], length, Option, refl, sym, subst}
use Rattle.std.specs.Option.{IsSome, IsSomeAnd}
use Rattle.std.proofs.lemmas.Bool.{false≢true}
use Rattle.cq_terms.specs.Conflicts.{ConflictGraph}
use Rattle.refutation_confirmer.specs.State.{State}
use Rattle.refutation_confirmer.proofs.FittingLemmas.{the_some}
use Rattle.refutation_confirmer.proofs.TakingLemmas.{takes_conflict, takes_last_ok, cycle_told}
use Rattle.refutation_confirmer.proofs.reader.Reader.take_conflict.Goals as goal

pub returns-then-not-ends_conflicts-clause-taken : goal.returns-then-not-ends_conflicts-clause-taken
returns-then-not-ends_conflicts-clause-taken c =
    let (g, e) = the_some c.self.inside.conflicts (subst (λ (s : State). IsSome s.conflicts) (sym c.self.view_is) c.requires.known) in
    rw (← c.self.view_is)
    (takes_conflict _ c.take_conflict.new.self g c.args.kb.now e (c.take_conflict.ensures.exact 0 [] 0 0)
    (λ t p. false≢true (c.if-not-ends_conflicts.ensures.exact.1
    (subst (λ (o : Option ConflictGraph). IsSomeAnd o (λ h. c.take_conflict.new.self.told ≡ length h.clashes)) (sym e) t, p))))

pub returns-clause-taken : goal.returns-clause-taken
returns-clause-taken c =
    let (g, e) = the_some c.self.inside.conflicts (subst (λ (s : State). IsSome s.conflicts) (sym c.self.view_is) c.requires.known) in
    rw (← c.self.view_is)
    (takes_last_ok c.rank.result _ c.take_conflict.new.self g c.args.kb.now c.rank.new.self e (c.take_conflict.ensures.exact 0 [] 0 0)
    (c.if-not-ends_conflicts.ensures.exact.0 refl).1 c.rank.ensures.same c.rank.ensures.exact c.rank.ensures.acyclic)

pub returns-clause-cycle : goal.returns-clause-cycle
returns-clause-cycle c =
    let (g, e) = the_some c.self.inside.conflicts (subst (λ (s : State). IsSome s.conflicts) (sym c.self.view_is) c.requires.known) in
    let ends = c.if-not-ends_conflicts.ensures.exact.0 refl in
    rw (← c.self.view_is)
    (λ facts is. cycle_told _ c.take_conflict.new.self g c.args.kb.now facts e (c.take_conflict.ensures.exact 0 [] 0 0)
    (subst (λ (o : Option ConflictGraph). IsSomeAnd o (λ h. c.take_conflict.new.self.told ≡ length h.clashes)) e ends.0) ends.1
    (c.rank.ensures.cycle facts is))
