use Rattle.std.proofs.Common.{◌∙◌, sym}
use Rattle.fact_tables.proofs.NumberLemmas.{end_end, end_here, end_skip}
use Rattle.fact_tables.proofs.number.before_blanks.Goals as goal

pub returns-then-not-is_blank : goal.returns-then-not-is_blank
returns-then-not-is_blank c = record {
  exact = end_here _ c.in-Some.last.now c.in-Some.before.now c.in-Some.ensures.cases.0
      (sym c.is_blank.ensures.exact ∙ c.if-not-is_blank.true) ∙ c.loop-last.invariant;
}

pub loop-last-preserved : goal.loop-last-preserved
loop-last-preserved c = end_skip _ c.in-Some.last.now c.in-Some.before.now c.in-Some.ensures.cases.0 (sym c.is_blank.ensures.exact ∙ c.if-not-is_blank.false)
    ∙ c.loop-last.invariant

pub returns : goal.returns
returns c = record { exact = end_end _ c.in_default.ensures.cases ∙ c.loop-last.invariant }
