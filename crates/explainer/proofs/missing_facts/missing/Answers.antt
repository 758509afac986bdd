use Rattle.std.proofs.Common.{◌≡◌, ◌<◌, ℕ, List, [], length, get_or, refl, subst, true≢false}
use Rattle.explainer.specs.Missing.{AreMissing}
use Rattle.explainer.proofs.MissingLemmas.{cause_at, least_of_more, least_of_all, none_present, some_present}
use Rattle.explainer.proofs.missing_facts.missing.Goals as goal

pub returns-in_default-clause-none : goal.returns-in_default-clause-none
returns-in_default-clause-none c =
    let k = c.loop-cause.cause-index in
    let inside : k < length c.args.causes.now = subst (λ (xs : List (List ℕ)). k < length xs) c.as_slice-cause-items.ensures.lent c.loop-cause-test.true in
    let same : c.as_slice.result.now ≡ get_or c.args.causes.now k [] =
    cause_at c.args.causes.now _ k c.cause-item.result _ c.as_slice-cause-items.ensures.lent c.loop-cause-test.true c.cause-item.is c.as_slice.ensures.lent in
    ((λ _. some_present c.args.causes.now c.args.present.now k inside (rw same at c.in_default.ensures.exact)), (λ _. refl))

pub loop-cause-preserved : goal.loop-cause-preserved
loop-cause-preserved c =
    let k = c.loop-cause.cause-index in
    let items = c.as_slice-cause-items.result.now in
    let same : c.as_slice.result.now ≡ get_or items k [] = cause_at items items k c.cause-item.result _ refl c.loop-cause-test.true c.cause-item.is
    c.as_slice.ensures.lent in
    rw c.in_ok-push.ensures.items (least_of_more items c.args.present.now c.loop-cause.facts.items k c.in-Some.fact c.loop-cause-test.true
    c.loop-cause.invariant (rw same at c.in-Some.ensures.exact))

pub returns-clause-found : goal.returns-clause-found
returns-clause-found c = subst (λ (xs : List (List ℕ)). AreMissing xs c.args.present.now c.in_ok-facts.facts) c.as_slice-cause-items.ensures.lent
    (least_of_all _ _ _ _ _ c.loop-cause-test.false c.loop-cause.invariant (rw c.as_slice-2.ensures.value at c.in_ok-facts.ensures.exact))

pub returns-clause-none : goal.returns-clause-none
returns-clause-none c =
    let found : AreMissing c.args.causes.now c.args.present.now c.in_ok-facts.facts =
    subst (λ (xs : List (List ℕ)). AreMissing xs c.args.present.now c.in_ok-facts.facts) c.as_slice-cause-items.ensures.lent
    (least_of_all _ _ _ _ _ c.loop-cause-test.false c.loop-cause.invariant (rw c.as_slice-2.ensures.value at c.in_ok-facts.ensures.exact)) in
    ((λ e. absurd (true≢false e)), (λ some. absurd (none_present c.args.causes.now c.args.present.now c.in_ok-facts.facts found some)))
