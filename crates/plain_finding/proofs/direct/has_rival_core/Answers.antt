use Rattle.std.proofs.Common.{ℕ, [], ◌∷◌, get_or, refl, sym, ◌∙◌}
use Rattle.std.proofs.lemmas.Bool.{false≢true}
use Rattle.std.proofs.lemmas.List.Elements.{Contains-get_or}
use Rattle.report_rules.specs.TryRules.{HasDirectCore}
use Rattle.plain_finding.proofs.EasyLemmas.{rival_told}
use Rattle.plain_finding.proofs.PlaceLemmas.{places_more, none_of}
use Rattle.plain_finding.proofs.direct.has_rival_core.Goals as goal

pub returns-then-branch : goal.returns-then-branch
returns-then-branch c =
    let rivals = c.of-rival-items.result.now in
    let k = c.loop-rival.rival-index in
    record {
      exact = λ kb mode of pr. (
        (λ t. (
          get_or rivals k 0,
          (rival_told kb mode c.args.better.now pr c.args.conflicts.now c.requires.over c.args.fact (get_or rivals k 0)).0
              ((c.of-rival-items.ensures.exact (get_or rivals k 0)).0 (Contains-get_or rivals k 0 c.loop-rival-test.true)),
          (c.in_ok-has_direct_core.ensures.exact kb mode of pr).0 c.if-branch.true,
        )),
        (λ w. refl),
      );
    }

pub loop-rival-preserved : goal.loop-rival-preserved
loop-rival-preserved c = λ kb mode of pr.
    places_more (λ (j : ℕ). ¬ HasDirectCore kb mode (j ∷ [])) c.of-rival-items.result.now c.loop-rival.rival-index (c.loop-rival.invariant kb mode of pr)
    (λ d. false≢true (sym c.if-branch.false ∙ (c.in_ok-has_direct_core.ensures.exact kb mode of pr).1 d))

pub returns : goal.returns
returns c = record {
  exact = λ kb mode of pr. (
    (λ t. absurd (false≢true t)),
    (λ (j, cf, d). absurd (none_of (λ (j : ℕ). HasDirectCore kb mode (j ∷ [])) c.of-rival-items.result.now c.loop-rival.rival-index
        c.loop-rival-test.false (c.loop-rival.invariant kb mode of pr) (
          j,
          (c.of-rival-items.ensures.exact j).1
              ((rival_told kb mode c.args.better.now pr c.args.conflicts.now c.requires.over c.args.fact j).1 cf),
          d,
        ))),
  );
}
