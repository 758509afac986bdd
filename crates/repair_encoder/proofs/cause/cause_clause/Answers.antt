use Rattle.std.proofs.Common.{◌≡◌, arith}
use Rattle.repair_clauses.specs.BaseClauses.{absent}
use Rattle.repair_clauses.specs.CauseClauses as clauses
use Rattle.repair_clauses.proofs.ListLemmas.{ascending_push, ascending_map}
use Rattle.repair_encoder.proofs.ListLemmas.{distinct_absent, cause_clause_is}
use Rattle.repair_encoder.proofs.cause.cause_clause.Goals as goal

pub returns-clause-ascending : goal.returns-clause-ascending
returns-clause-ascending c =
    let is : c.push.new.self ≡ clauses.cause_clause c.args.selector c.args.cause.now =
    cause_clause_is c.args.selector c.args.cause.now _ _ _ c.new-clause.ensures c.in_ok-push_absent.ensures.exact c.in_ok-push.ensures.exact in
    rw is (ascending_map absent (λ i j l. omega arith) _ (ascending_push c.args.cause.now c.args.selector c.requires.ascending c.requires.below))

pub returns-clause-distinct : goal.returns-clause-distinct
returns-clause-distinct c =
    let is : c.push.new.self ≡ clauses.cause_clause c.args.selector c.args.cause.now =
    cause_clause_is c.args.selector c.args.cause.now _ _ _ c.new-clause.ensures c.in_ok-push_absent.ensures.exact c.in_ok-push.ensures.exact in
    rw is (distinct_absent _ (ascending_push c.args.cause.now c.args.selector c.requires.ascending c.requires.below))
