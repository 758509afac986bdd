use Rattle.std.proofs.Common.{◌↔◌, ℕ, List, Contains}
use Rattle.repair_clauses.specs.BaseClauses.{IsBaseClause}
use Rattle.repair_encoder.proofs.BaseLemmas.{built_all}
use Rattle.repair_encoder.proofs.FormLemmas.{all_have_form}
use Rattle.repair_encoder.proofs.TwinLemmas.{pushed_more, pushed_once}
use Rattle.repair_encoder.proofs.base.clauses_of_ascending.Goals as goal

pub loop-fact-preserved : goal.loop-fact-preserved
loop-fact-preserved c = record {
  exact = rw c.in_ok-push_conflicts.ensures.exact
      (pushed_more c.args.better.now c.args.conflicts.now c.requires.over c.facts.ensures.kept c.args.facts.now c.requires.ascending c.requires.closed
      c.loop-fact.fact-index c.loop-fact-test.true
      c.loop-fact.clauses c.push_fact.new.clauses c.of.result.now c.loop-fact.invariant.exact c.of.ensures.exact c.in_ok-push_fact.ensures.exact);
  once = rw c.in_ok-push_conflicts.ensures.exact
      (pushed_once c.args.better.now c.args.conflicts.now c.requires.over c.facts.ensures.kept c.args.facts.now c.requires.ascending c.requires.closed
      c.loop-fact.fact-index c.loop-fact-test.true
      c.loop-fact.clauses c.push_fact.new.clauses c.of.result.now c.loop-fact.invariant.exact c.of.ensures.exact c.of.ensures.ascending
      c.loop-fact.invariant.once c.in_ok-push_fact.ensures.exact);
}

pub returns : goal.returns
returns c =
    let exact : (d : List ℕ) → Contains c.loop-fact.clauses d ↔ IsBaseClause c.args.better.now (Contains c.args.facts.now) d =
    built_all c.args.better.now c.args.conflicts.now c.args.facts.now c.loop-fact.fact-index c.loop-fact.clauses c.loop-fact-test.false c.requires.over
    c.facts.ensures.kept c.requires.closed c.loop-fact.invariant.exact in
    record {
      once = c.loop-fact.invariant.once;
      form = all_have_form c.args.better.now c.args.conflicts.now c.args.facts.now c.loop-fact.clauses c.requires.over c.facts.ensures.kept c.requires.closed
          exact;
      exact = exact;
    }
