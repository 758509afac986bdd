use Rattle.std.proofs.Common.{ℕ, List, Contains, sym, subst}
use Rattle.clause_meaning.specs.Refutation.{Refutes}
use Rattle.clause_meaning.specs.Assignments.{Inside, Separates}
use Rattle.clause_meaning.specs.Learning.{is_in, Nothing}
use Rattle.cdcl_core.specs.State.{LiveIn}
use Rattle.cdcl_core.specs.Store.{StoreState}
use Rattle.cdcl_core.specs.Shown.{parts_of}
use Rattle.cdcl_core.specs.Seeking.{bare}
use Rattle.cdcl_core.proofs.Bare.{separates_live, refuted_shown}
use Rattle.cdcl_core.proofs.store.Store.begin.Goals as goal

pub begin-requires-clause-separates : goal.begin-requires-clause-separates
begin-requires-clause-separates c =
    let parts = parts_of c.self.inside in
    separates_live parts c.args.scope.now c.self.invariant.kept.parallel
    (subst (λ (p : StoreState). Separates (is_in c.args.scope.now) (LiveIn (bare p))) (sym c.self.view_is) c.requires.separates)

pub returns-clause-refuted : goal.returns-clause-refuted
returns-clause-refuted c told assume =
    let new : StoreState = record (parts_of c.self.inside) { trail = c.begin.new.trail } in
    subst (λ (vs : List ℕ). Refutes (Inside (is_in vs) (LiveIn (bare new))) (Contains assume)) c.begin.ensures.focus
    (refuted_shown new Nothing (Contains assume) c.self.invariant.kept.parallel (λ l g. absurd g) (c.begin.ensures.refuted told))
