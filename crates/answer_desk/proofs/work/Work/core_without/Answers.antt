use Rattle.std.proofs.Common.{◌≡◌, ◌<◌, ℕ, List, All, Contains, sym, subst}
use Rattle.std.specs.Prelude.{Result, Ok, Err, IfOk, IfSome, Option, Some, []}
use Rattle.clause_meaning.specs.Refutation.{IsWithin}
use Rattle.explainer.specs.declared.cores.Core.{Core}
use Rattle.explainer.specs.Missing.{AreMissing}
use Rattle.explainer.specs.Wanted.{SatisfiesComponents}
use Rattle.priority_graph.specs.Priority.{Priority}
use Rattle.answer_evidence.specs.Aims.{IsCoreOver}
use Rattle.answer_evidence.specs.Sets.{EachMeets}
use Rattle.answer_desk.proofs.ModelLemmas.{missing_known, missing_outside, missing_meets}
use Rattle.answer_desk.proofs.work.Work.core_without.Goals as goal

found : (causes : List (List ℕ)) (shown : List ℕ) (o : Option (List ℕ)) (d : List ℕ) → o ≡ Some d → IfSome o (AreMissing causes shown)
    → AreMissing causes shown d
found causes shown o d is w = subst (λ (x : Option (List ℕ)). IfSome x (AreMissing causes shown)) is w

each : {E : Type 0} (p : Priority) (causes : List (List ℕ)) (shown drop slice : List ℕ) → AreMissing causes shown drop → slice ≡ drop → (r : Result Core E)
    → IfOk r (λ core. IsCoreOver p core.kept core.dropped × IsWithin [] core.kept × IsWithin slice core.dropped)
    → IfOk r (λ core. IsCoreOver p core.kept core.dropped × EachMeets causes core.dropped)
each p causes shown drop slice m is (Ok core) w =
    (w.0, missing_meets causes shown drop core.dropped m (subst (λ (xs : List ℕ). IsWithin xs core.dropped) is w.2))
each p causes shown drop slice m is (Err e) w = tt

pub core_within-requires-clause-known : goal.core_within-requires-clause-known
core_within-requires-clause-known c = subst (λ (xs : List ℕ). All (λ i. i < c.args.self.now.conflicts.now.facts) xs) (sym c.as_slice.ensures.lent)
    (missing_known c.args.causes.now c.args.self.now.conflicts.now.facts c.args.present.now c.in-Some.drop c.requires.known
    (found c.args.causes.now c.args.present.now c.in_ok-drop.field-0 c.in-Some.drop c.in-Some.is c.in_ok-drop.ensures.found))

pub core_within-requires-clause-outside : goal.core_within-requires-clause-outside
core_within-requires-clause-outside c = subst (λ (xs : List ℕ). All (λ i. ¬ Contains c.args.present.now i) xs) (sym c.as_slice.ensures.lent)
    (missing_outside c.args.causes.now c.args.present.now c.in-Some.drop
    (found c.args.causes.now c.args.present.now c.in_ok-drop.field-0 c.in-Some.drop c.in-Some.is c.in_ok-drop.ensures.found))

pub core_within-requires-clause-satisfied : goal.core_within-requires-clause-satisfied
core_within-requires-clause-satisfied c =
    subst (λ (xs : List ℕ). SatisfiesComponents c.args.self.now.better.now c.args.self.now.conflicts.now c.args.present.now xs) (sym c.as_slice.ensures.lent)
    (c.requires.satisfied c.in-Some.drop
    (found c.args.causes.now c.args.present.now c.in_ok-drop.field-0 c.in-Some.drop c.in-Some.is c.in_ok-drop.ensures.found))

pub returns : goal.returns
returns c = record {
  exact = each c.args.self.now.better.now c.args.causes.now c.args.present.now c.in-Some.drop c.as_slice.result.now
      (found c.args.causes.now c.args.present.now c.in_ok-drop.field-0 c.in-Some.drop c.in-Some.is c.in_ok-drop.ensures.found) c.as_slice.ensures.lent
      c.core_within.result c.core_within.ensures.exact;
}
