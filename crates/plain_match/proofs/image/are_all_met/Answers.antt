use Rattle.std.proofs.Common.{All, Contains, get_or, take_all, subst, List, ℕ}
use Rattle.std.proofs.lemmas.Bool.Decides.{Decides-eqb}
use Rattle.std.proofs.lemmas.List.Elements.{All-more, contains_decides, Decides-contains}
use Rattle.plain_match.proofs.image.are_all_met.Goals as goal

pub returns-then-not-contains : goal.returns-then-not-contains
returns-then-not-contains c =
    let k = c.loop-number.number-index in
    let test = Decides-contains c.args.path.now (get_or c.args.image.now k 0) c.contains.result
    (contains_decides _ Decides-eqb c.args.path.now (get_or c.args.image.now k 0) c.contains.result c.contains.ensures.cases) in
    record { exact = ((λ h. cc h), (λ all. let is = test.1 (all k 0 c.loop-number-test.true) in cc (is, c.if-not-contains.true))) }

pub loop-number-preserved : goal.loop-number-preserved
loop-number-preserved c =
    let k = c.loop-number.number-index in
    let test = Decides-contains c.args.path.now (get_or c.args.image.now k 0) c.contains.result
    (contains_decides _ Decides-eqb c.args.path.now (get_or c.args.image.now k 0) c.contains.result c.contains.ensures.cases) in
    All-more (Contains c.args.path.now) c.args.image.now k 0 c.loop-number-test.true c.loop-number.invariant (test.0 c.if-not-contains.false)

pub returns : goal.returns
returns c =
    let all = subst (λ (xs : List ℕ). All (Contains c.args.path.now) xs) (take_all c.loop-number.number-index c.args.image.now c.loop-number-test.false)
    c.loop-number.invariant in
    record { exact = ((λ _. all), (λ _. cc)) }
