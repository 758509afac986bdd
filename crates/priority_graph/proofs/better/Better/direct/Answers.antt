use Rattle.std.proofs.Common.{refl, subst, Contains, All}
use Rattle.std.proofs.lemmas.Bool.{false≢true}
use Rattle.priority_graph.specs.Priority.{IsPriority}
use Rattle.priority_graph.specs.Cores.{IsBlocked}
use Rattle.priority_graph.proofs.DirectLemmas.{direct_found, core_blocks}
use Rattle.priority_graph.proofs.better.Better.direct.Goals as goal

pub returns-then-are_blocked-clause-found : goal.returns-then-are_blocked-clause-found
returns-then-are_blocked-clause-found c =
    direct_found c.args.self.now c.args.kept.now c.in_ok-dropped.dropped c.requires.free c.in_ok-dropped.ensures.ascending c.in_ok-dropped.ensures.exact
    (rw c.as_slice.ensures.lent at (c.if-are_blocked.ensures.exact.0 refl))

pub returns-else-are_blocked-clause-none : goal.returns-else-are_blocked-clause-none
returns-else-are_blocked-clause-none c =
    let priority : IsPriority c.args.self.now = subst IsPriority c.self.view_is c.self.invariant.kept in
    λ none core.
    let all : All (IsBlocked c.args.self.now (Contains c.args.kept.now)) c.in_ok-dropped.dropped =
    core_blocks c.args.self.now c.args.kept.now c.in_ok-dropped.dropped priority c.in_ok-dropped.ensures.exact core in
    false≢true (c.if-are_blocked.ensures.exact.1 (rw c.as_slice.ensures.lent all))
