use Rattle.std.proofs.Common.{◌≡◌, false, true, sym, ◌∙◌, arith}
use Rattle.query_reader.proofs.DraftLemmas.{meant_none, meant_more, unmeant_at, all_meant, meant_room}
use Rattle.query_reader.proofs.draft.first_unmeant.Goals as goal

pub loop-term-init : goal.loop-term-init
loop-term-init c = meant_none _ _

pub returns-then-not-is_meant-clause-found : goal.returns-then-not-is_meant-clause-found
returns-then-not-is_meant-clause-found c =
    unmeant_at _ _ _ _ _ _ c.loop-term.invariant c.in-Some.ensures.cases.0
    (λ meant. let both : false ≡ true = sym c.if-not-is_meant.true ∙ c.is_meant.ensures.exact.1 meant in cc both)

pub loop-term-preserved : goal.loop-term-preserved
loop-term-preserved c = meant_more _ _ _ _ _ _ c.loop-term.invariant c.in-Some.ensures.cases.0 (c.is_meant.ensures.exact.0 c.if-not-is_meant.false)

pub overflow_add-place : goal.overflow_add-place
overflow_add-place c = omega (arith, meant_room _ _ _ _ _ _ c.loop-term.invariant c.in-Some.ensures.cases.0 c.requires.fits)

pub returns-clause-none : goal.returns-clause-none
returns-clause-none c = all_meant _ _ _ _ c.loop-term.invariant c.in_default.ensures.cases
