use Rattle.std.proofs.Common.{inl, inr, subst, Contains, get_or}
use Rattle.std.proofs.lemmas.Bool.{false≢true, both_ways}
use Rattle.std.proofs.lemmas.List.Elements.{Contains-get_or}
use Rattle.clause_meaning.proofs.Members.{Contains-take_more_cases}
use Rattle.rup_check.proofs.ListTests.{contains_tells}
use Rattle.rup_check.proofs.clauses.is_within.Goals as goal

pub returns-then-not-contains : goal.returns-then-not-contains
returns-then-not-contains c =
    let small = c.args.small.now in
    let i = c.loop-literal.literal-index in
    let tells = contains_tells c.args.large.now (get_or small i 0) c.contains.result c.contains.ensures.cases in (
      λ e. absurd (false≢true e),
      λ w. absurd (both_ways c.contains.result c.if-not-contains.true
          (tells.1 (w (get_or small i 0) (Contains-get_or small i 0 c.loop-literal-test.true)))),
    )

pub loop-literal-preserved : goal.loop-literal-preserved
loop-literal-preserved c l m =
    let small = c.args.small.now in
    let i = c.loop-literal.literal-index in
    let tells = contains_tells c.args.large.now (get_or small i 0) c.contains.result c.contains.ensures.cases in
    elim (Contains-take_more_cases small i 0 l c.loop-literal-test.true m) [
      | inl t ↦ c.loop-literal.invariant l t
      | inr e ↦ subst (Contains c.args.large.now) e (tells.0 c.if-not-contains.false)
    ]
