use Rattle.std.proofs.Common.{ℕ, List, Contains, subst}
use Rattle.std.proofs.lemmas.Bool.{false≢true}
use Rattle.std.proofs.lemmas.Result.{on_ok_weaker}
use Rattle.priority_graph.proofs.DirectLemmas.{conflict_over}
use Rattle.plain_finding.proofs.BaseLemmas.{no_self_conflict, blocking_clause}
use Rattle.plain_finding.proofs.base.fill_fact_clause.Goals as goal

pub push_present_or-requires-clause-apart : goal.push_present_or-requires-clause-apart
push_present_or-requires-clause-apart c m =
    no_self_conflict c.args.conflicts.now c.args.fact c.requires.kept
    (conflict_over c.args.better.now c.args.conflicts.now c.args.fact c.args.fact c.requires.over ((c.blockers.ensures.exact.exact c.args.fact).0 m).0)

pub returns : goal.returns
returns c =
    let alone : Contains c.args.better.now.own c.args.fact → ⊥ =
    λ own. false≢true (c.if-is_own.ensures.exact.1 (subst (λ (l : List ℕ). Contains l c.args.fact) c.requires.over.own own)) in
    record {
      exact = on_ok_weaker _ (λ h. blocking_clause c.args.better.now c.args.fact c.blockers.result.now _ c.blockers.ensures.exact alone h)
          c.push_present_or.ensures.exact;
    }
