use Rattle.std.proofs.Common.{List, ℕ, All, ◌<◌}
use Rattle.std.specs.Prelude.{Result, Ok, Err, IfOk}
use Rattle.cq_terms.specs.Lists.{IsAscending}
use Rattle.clause_meaning.specs.Refutation.{IsWithin}
use Rattle.explainer.specs.declared.cores.Core.{Core}
use Rattle.explainer.specs.Wanted.{IsCoreFor}
use Rattle.priority_graph.specs.Priority.{Priority}
use Rattle.answer_evidence.specs.Aims.{IsCoreOver}
use Rattle.answer_desk.proofs.ModelLemmas.{core_over}
use Rattle.answer_desk.proofs.work.Work.core_within.Goals as goal

both : {E : Type 0} (p : Priority) (shown start drop : List ℕ) → All (λ i. i < p.facts) shown → (r : Result Core E)
    → IfOk r (λ core. IsAscending core.kept × IsAscending core.dropped) → IfOk r (λ core. IsCoreFor p shown start drop core.kept core.dropped)
    → IfOk r (λ core. IsCoreOver p core.kept core.dropped × IsWithin start core.kept × IsWithin drop core.dropped)
both p shown start drop known (Ok core) up is = core_over p shown start drop core.kept core.dropped known up.0 up.1 is
both p shown start drop known (Err e) up is = tt

pub returns : goal.returns
returns c = record {
  exact = both c.args.self.now.better.now c.args.present.now c.args.start.now c.args.drop.now c.requires.present_known c.core_of.result
      c.core_of.ensures.ascending
      c.core_of.ensures.exact;
}
