use Rattle.std.proofs.Common.{All, Contains, refl}
use Rattle.clause_meaning.specs.Assignments.{Satisfies}
use Rattle.priority_graph.specs.Split.{has}
use Rattle.repair_tests.proofs.CoresTestLemmas.{scope_known, scope_satisfied}
use Rattle.repair_tests.proofs.cores.core_row.Goals as goal

pub base_clauses-requires-clause-closed : goal.base_clauses-requires-clause-closed
base_clauses-requires-clause-closed c = rw c.as_slice-scope.ensures.lent c.in_ok-facts.ensures.closed

pub core_of-requires : goal.core_of-requires
core_of-requires c =
    let begins : All (Contains c.in_ok-facts.facts) c.args.start.now = rw c.as_slice-scope.ensures.lent at (c.if-not-are_within.ensures refl) in
    let ends : All (Contains c.in_ok-facts.facts) c.args.drop.now = rw c.as_slice-scope.ensures.lent at (c.if-not-are_within-2.ensures refl) in
    let all : All (Satisfies (has c.args.present.now)) c.in_ok-clauses.clauses = rw c.as_slice-lent.ensures.lent at (c.if-not-are_satisfied.ensures refl) in
    record {
      over = c.requires.over;
      ascending = c.requires.ascending;
      known = scope_known c.in_ok-facts.facts c.args.start.now c.args.drop.now begins ends c.args.conflicts.now.facts c.in_ok-facts.ensures.known;
      inside = c.requires.inside;
      outside = c.requires.outside;
      satisfied = scope_satisfied c.in_ok-facts.facts c.args.start.now c.args.drop.now begins ends c.args.better.now c.args.conflicts.now
          c.in_ok-clauses.clauses c.args.present.now c.scope_covers_components.ensures
          c.linear-order.ensures.kept c.requires.over c.in_ok-facts.ensures.closed (rw c.as_slice-scope.ensures.lent at c.in_ok-clauses.ensures.exact) all;
    }
