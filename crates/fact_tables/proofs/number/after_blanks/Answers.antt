use Rattle.std.proofs.Common.{◌∙◌, sym}
use Rattle.fact_tables.proofs.NumberLemmas.{front_end, front_here, front_skip}
use Rattle.fact_tables.proofs.number.after_blanks.Goals as goal

pub returns-then-not-is_blank : goal.returns-then-not-is_blank
returns-then-not-is_blank c = record {
  exact = front_here _ c.in-Some.first.now c.in-Some.after.now c.in-Some.ensures.cases.0
      (sym c.is_blank.ensures.exact ∙ c.if-not-is_blank.true) ∙ c.loop-first.invariant;
}

pub loop-first-preserved : goal.loop-first-preserved
loop-first-preserved c = front_skip _ c.in-Some.first.now c.in-Some.after.now c.in-Some.ensures.cases.0
    (sym c.is_blank.ensures.exact ∙ c.if-not-is_blank.false) ∙ c.loop-first.invariant

pub returns : goal.returns
returns c = record { exact = front_end _ c.in_default.ensures.cases ∙ c.loop-first.invariant }
