use Rattle.std.proofs.Common.{ℕ, List, Contains, subst}
use Rattle.std.proofs.lemmas.Bool.{false≢true}
use Rattle.std.proofs.lemmas.Result.{IfOk-weaker}
use Rattle.priority_graph.proofs.DirectLemmas.{conflict_over}
use Rattle.repair_encoder.proofs.BaseLemmas.{no_self_conflict, blocking_clause}
use Rattle.repair_encoder.proofs.base.fact_clause.Goals as goal

pub present_or-requires-clause-apart : goal.present_or-requires-clause-apart
present_or-requires-clause-apart c m =
    no_self_conflict c.args.conflicts.now c.args.fact c.requires.kept
    (conflict_over c.args.better.now c.args.conflicts.now c.args.fact c.args.fact c.requires.over ((c.blockers.ensures.exact.exact c.args.fact).0 m).0)

pub returns-else-is_own : goal.returns-else-is_own
returns-else-is_own c =
    let alone : Contains c.args.better.now.own c.args.fact → ⊥ =
    λ own. false≢true (c.if-is_own.ensures.exact.1 (subst (λ (l : List ℕ). Contains l c.args.fact) c.requires.over.own own)) in
    record {
      exact = IfOk-weaker _ _ _ (λ clause h. blocking_clause c.args.better.now c.args.fact c.blockers.result.now clause c.blockers.ensures.exact alone h)
          c.present_or.ensures.exact;
    }
