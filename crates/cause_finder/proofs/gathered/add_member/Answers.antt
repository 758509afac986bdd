use Rattle.std.proofs.Common.{◌≡◌, ap, sym, subst, Err, arith, inr}
use Rattle.std.proofs.lemmas.Result.{err_from_is_err_and}
use Rattle.query_matching.specs.Hits.{IsHit, AreHits}
use Rattle.cause_finder.specs.declared.refusal.CauseRefusal.TheVariants.{TooManySupports}
use Rattle.cause_finder.proofs.GatherLemmas.{adds_none, adds_hit, found_more, found_all}
use Rattle.cause_finder.proofs.gathered.add_member.Goals as goal

pub loop-hit-init : goal.loop-hit-init
loop-hit-init c = (adds_none (IsHit c.args.index.now c.args.query.now) c.args.place c.args.found.now.keys, (λ k d l. absurd (omega arith)), c.requires.few)

pub loop-hit-preserved : goal.loop-hit-preserved
loop-hit-preserved c =
    let hits = c.deref-hit-items.result.now in
    let are = subst (AreHits c.args.index.now c.args.query.now) (sym c.deref-hit-items.ensures.value) c.in_ok-hits.ensures.exact in (
      adds_hit c.args.index.now c.args.query.now c.args.place c.args.found.now.keys c.loop-hit.found.keys c.add.new.found.keys hits c.loop-hit.hit-index
          c.hit-item.result c.loop-hit-test.true c.hit-item.is are c.loop-hit.invariant.0 c.add.ensures.only,
      found_more c.loop-hit.found.keys c.add.new.found.keys hits c.loop-hit.hit-index c.hit-item.result c.loop-hit-test.true c.hit-item.is
          c.add.ensures.only.kept c.in_ok-add.ensures.there c.loop-hit.invariant.1,
      c.in_ok-add.ensures.few,
    )

pub returns-in_err-add-clause-only : goal.returns-in_err-add-clause-only
returns-in_err-add-clause-only c =
    let are = subst (AreHits c.args.index.now c.args.query.now) (sym c.deref-hit-items.ensures.value) c.in_ok-hits.ensures.exact in
    adds_hit c.args.index.now c.args.query.now c.args.place c.args.found.now.keys c.loop-hit.found.keys c.add.new.found.keys c.deref-hit-items.result.now
    c.loop-hit.hit-index c.hit-item.result c.loop-hit-test.true c.hit-item.is are c.loop-hit.invariant.0 c.add.ensures.only

pub returns-in_err-add-clause-too_many : goal.returns-in_err-add-clause-too_many
returns-in_err-add-clause-too_many c = λ refused.
    let (y, is, same) = err_from_is_err_and c.from_residual-in_err-add.result c.from_residual-in_err-add.ensures.1 in
    let given : c.in_err-add.field-0.0 ≡ TooManySupports = cc (is, same, refused) in
    inr (c.in_err-add.ensures.too_many (ap Err given))

pub returns-clause-all : goal.returns-clause-all
returns-clause-all c =
    let are = subst (AreHits c.args.index.now c.args.query.now) (sym c.deref-hit-items.ensures.value) c.in_ok-hits.ensures.exact in
    found_all c.args.index.now c.args.query.now c.loop-hit.found.keys c.deref-hit-items.result.now c.loop-hit.hit-index c.loop-hit-test.false are
    c.loop-hit.invariant.1
