use Rattle.std.proofs.Common.{◌≡◌, ℕ, ◌++◌, [], sym, subst, ◌∙◌, arith}
use Rattle.report_laws.specs.LiveLists.{AreClausesBelow}
use Rattle.plain_finding.specs.Kept.{Kept, Holds}
use Rattle.plain_finding.proofs.BaseLemmas.{below_more}
use Rattle.plain_finding.proofs.base.base_clauses.Goals as goal

pub loop-fact-preserved : goal.loop-fact-preserved
loop-fact-preserved c =
    let old = c.loop-fact.invariant in
    let w = c.in_ok-add_fact.ensures.exact old.base old.holds in
    record {
      variables = c.in_ok-add_fact.ensures.same ∙ old.variables;
      base = old.base ++ w.0;
      below = below_more c.args.better.now c.loop-fact.fact old.base w.0 old.below w.1;
      holds = w.2;
    }

pub returns-clause-exact : goal.returns-clause-exact
returns-clause-exact c =
    let old = c.loop-fact.invariant in
    let all : c.loop-fact.fact ≡ c.args.conflicts.now.facts = omega
    (arith, c.loop-fact-test.false, c.loop-fact.auto.fact-end, c.facts-fact-end.ensures.exact) in (
      old.base,
      subst (λ (n : ℕ). AreClausesBelow c.args.better.now n old.base) all old.below,
      subst (λ (k : Kept). Holds k old.base [] []) (sym c.settle.ensures.unchanged) old.holds,
    )
