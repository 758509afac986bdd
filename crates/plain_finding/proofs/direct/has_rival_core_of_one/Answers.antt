use Rattle.std.proofs.Common.{ℕ, get_or, refl, sym, ◌∙◌}
use Rattle.std.proofs.lemmas.Bool.{false≢true}
use Rattle.std.proofs.lemmas.List.Elements.{Contains-get_or}
use Rattle.plain_finding.specs.EasyParts.{HasRivalCore}
use Rattle.plain_finding.proofs.PlaceLemmas.{places_more, none_of}
use Rattle.plain_finding.proofs.direct.has_rival_core_of_one.Goals as goal

pub returns-then-branch : goal.returns-then-branch
returns-then-branch c =
    let facts = c.args.facts.now in
    let k = c.loop-fact.fact-index in
    record {
      exact = λ kb mode of pr. (
        (λ t. (get_or facts k 0, Contains-get_or facts k 0 c.loop-fact-test.true, (c.in_ok-has_rival_core.ensures.exact kb mode of pr).0 c.if-branch.true)),
        (λ w. refl),
      );
    }

pub loop-fact-preserved : goal.loop-fact-preserved
loop-fact-preserved c = λ kb mode of pr.
    places_more (λ (i : ℕ). ¬ HasRivalCore kb mode i) c.args.facts.now c.loop-fact.fact-index (c.loop-fact.invariant kb mode of pr)
    (λ d. false≢true (sym c.if-branch.false ∙ (c.in_ok-has_rival_core.ensures.exact kb mode of pr).1 d))

pub returns : goal.returns
returns c = record {
  exact = λ kb mode of pr. (
    (λ t. absurd (false≢true t)),
    (λ w. absurd (none_of (HasRivalCore kb mode) c.args.facts.now c.loop-fact.fact-index c.loop-fact-test.false
        (c.loop-fact.invariant kb mode of pr) w)),
  );
}
