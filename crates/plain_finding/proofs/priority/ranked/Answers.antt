use Rattle.cq_terms.specs.declared.facts.Repairs.TheVariants as mode
use Rattle.cq_meaning.specs.Repairs.{IsBetter}
use Rattle.priority_graph.specs.Priority.{Ranks}
use Rattle.priority_graph.specs.Refusal.{Refuses}
use Rattle.std.proofs.lemmas.Result.{on_ok_weaker}
use Rattle.plain_finding.proofs.RankLemmas.{cycle_wider}
use Rattle.plain_finding.proofs.ResultFacts.{if_ok_two, refused_so}
use Rattle.plain_finding.proofs.priority.ranked.Goals as goal

pub returns : goal.returns
returns c =
    let ranks = c.pairs_rank_as_pareto.ensures.ranks c.args.kb.now c.args.conflicts.now c.requires.of in
    record {
      over = c.restrict.ensures.over;
      exact = if_ok_two _ _ _ c.restrict.result
          (λ b over exact. c.restricted_is_pareto.ensures.pareto c.args.kb.now c.args.conflicts.now b c.requires.of over exact)
          c.restrict.ensures.over (rw c.pairs-pairs.ensures.lent at c.restrict.ensures.exact);
      acyclic = on_ok_weaker c.restrict.result ranks.acyclic.0 (rw c.pairs-pairs.ensures.lent at c.restrict.ensures.acyclic);
      cycle = λ facts e.
          let w = refused_so (Refuses (Ranks c.args.kb.now.pairs c.args.conflicts.now)) c.restrict.result _ e
          (rw c.pairs-pairs.ensures.lent at c.restrict.ensures.cycle) in (
            cycle_wider (Ranks c.args.kb.now.pairs c.args.conflicts.now) (IsBetter c.args.kb.now mode.Pareto) (λ i j r. (ranks.better i j).0 r)
                facts w.0,
            (λ a. w.1 (ranks.acyclic.1 a)),
          );
    }
