use Rattle.std.proofs.Common.{◌≡◌, ◌+◌, ℕ, List, ap, subst, slice_get, Some, arith, Err, length}
use Rattle.std.proofs.lemmas.Result.{err_from_is_err_and}
use Rattle.cq_steps.specs.declared.closure.Member.{Member}
use Rattle.query_matching.specs.Hits.{IsHit}
use Rattle.cause_finder.specs.declared.refusal.CauseRefusal.TheVariants.{TooManySupports}
use Rattle.cause_finder.specs.Supports.{AddsOnly}
use Rattle.cause_finder.proofs.PartLemmas.{slice_get_at}
use Rattle.cause_finder.proofs.GatherLemmas.{gathered_more, too_many_gathered, supports_all}
use Rattle.cause_finder.proofs.gathered.supports_of.Goals as goal

pub returns-in_err-add_member-clause-too_many : goal.returns-in_err-add_member-clause-too_many
returns-in_err-add_member-clause-too_many c = λ refused.
    let (y, is, same) = err_from_is_err_and c.from_residual.result c.from_residual.ensures.1 in
    let given : c.in_err-add_member.field-0.0 ≡ TooManySupports = cc (is, same, refused) in
    let m = c.member-item.result in
    let at : slice_get c.args.closure.now c.loop-member.member-index ≡ Some m =
    subst (λ (xs : List Member). slice_get xs c.loop-member.member-index ≡ Some m) c.members-member-items.ensures.lent
    (slice_get_at c.members-member-items.result.now c.loop-member.member-index m c.loop-member-test.true c.member-item.is) in
    let only = subst (λ (k : ℕ). AddsOnly (IsHit c.args.index.now m.query) k c.loop-member.found.keys c.add_member.new.found.keys) c.loop-member.invariant.0
    c.add_member.ensures.only in
    too_many_gathered c.args.index.now c.args.closure.now c.loop-member.member-index m c.loop-member.found.keys c.add_member.new.found.keys at
    c.loop-member.invariant.1 only c.args.limit (c.in_err-add_member.ensures.too_many (ap Err given))

pub loop-member-preserved : goal.loop-member-preserved
loop-member-preserved c =
    let m = c.member-item.result in
    let at : slice_get c.args.closure.now c.loop-member.member-index ≡ Some m =
    subst (λ (xs : List Member). slice_get xs c.loop-member.member-index ≡ Some m) c.members-member-items.ensures.lent
    (slice_get_at c.members-member-items.result.now c.loop-member.member-index m c.loop-member-test.true c.member-item.is) in
    let only = subst (λ (k : ℕ). AddsOnly (IsHit c.args.index.now m.query) k c.loop-member.found.keys c.add_member.new.found.keys) c.loop-member.invariant.0
    c.add_member.ensures.only in (
      ap (λ (n : ℕ). n + 1) c.loop-member.invariant.0,
      gathered_more c.args.index.now c.args.closure.now c.loop-member.member-index m c.loop-member.found.keys c.add_member.new.found.keys at
          c.loop-member.invariant.1 only c.in_ok-add_member.ensures.all,
      c.in_ok-add_member.ensures.few,
    )

pub returns-clause-exact : goal.returns-clause-exact
returns-clause-exact c =
    let whole : c.loop-member.member-index ≡ length c.args.closure.now =
    omega (arith, ap length c.members-member-items.ensures.lent, c.loop-member-test.false, c.loop-member.auto.member-index-end) in
    supports_all c.args.index.now c.args.closure.now c.loop-member.member-index c.loop-member.found.keys c.in_ok-listed.field-0.items whole
    c.in_ok-listed.ensures.exact c.loop-member.invariant.1 c.in_ok-listed.ensures.ordered
