use Rattle.std.proofs.Common.{ℕ, suc, ◌+◌, List, ◌≡◌, ◌∙◌, sym, ap, arith, Some, Contains, slice_get}
use Rattle.std.proofs.lemmas.Option.{slice_get-get_or}
use Rattle.std.proofs.lemmas.Result.{err_from_is_err_and}
use Rattle.cq_meaning.proofs.Members.{Contains-slice_get}
use Rattle.cq_steps.specs.declared.closure.Member.{Member}
use Rattle.conflict_finder.proofs.Scanning.{IsInFirst, scanned_none, enters, leaves, scanned_all}
use Rattle.conflict_finder.proofs.scan.scan.Goals as goal

next : (n : ℕ) → suc n ≡ n + 1
next n = omega arith

pub loop-closure-init : goal.loop-closure-init
loop-closure-init c = record {
  few = c.requires.few;
  so = scanned_none c.args.pass.now.index.now c.args.closures.now c.args.pass.now.sought c.args.pass.now.numbers.now c.args.shown.now.entries
      (IsInFirst c.args.pass.now.index.now c.args.closures.now c.args.pass.now.sought c.args.pass.now.numbers.now c.args.shown.now.entries 0)
      (λ m p d. absurd (let l = d.2 in omega (arith, l))) c.requires.first;
}

pub loop-closure-preserved : goal.loop-closure-preserved
loop-closure-preserved c =
    let i = c.loop-closure.closure-index in
    let closures : List (ℕ × List Member) = c.args.closures.now in
    let item : ℕ × List Member = c.closure-item.result in
    let found : slice_get closures i ≡ Some item = slice_get-get_or closures i item c.loop-closure-test.true ∙ ap Some (sym c.closure-item.is) in
    let at : slice_get closures i ≡ Some (item.0, c.members.result.now) = found ∙ ap (λ (ms : List Member). Some (item.0, ms)) (sym c.members.ensures.lent) in
    let before = enters c.args.pass.now.index.now closures c.args.pass.now.sought c.args.pass.now.numbers.now c.args.shown.now.entries c.requires.ascending i
    item.0 c.members.result.now at c.loop-closure.shown.entries c.loop-closure.invariant.so in
    let there : Contains closures (item.0, c.members.result.now) = Contains-slice_get closures i (item.0, c.members.result.now) at in
    record {
      few = c.in_ok-scan_members.ensures.few;
      so = rw (← next i) (leaves c.args.pass.now.index.now closures c.args.pass.now.sought c.args.pass.now.numbers.now c.args.shown.now.entries
          c.requires.ascending i item.0 c.members.result.now at c.scan_members.new.shown.entries
          (c.in_ok-scan_members.ensures.shown closures c.args.shown.now.entries there c.requires.ascending before));
    }

pub returns-in_err-scan_members-clause-many : goal.returns-in_err-scan_members-clause-many
returns-in_err-scan_members-clause-many c = λ e.
    let (y, is, same) = err_from_is_err_and c.from_residual.result c.from_residual.ensures.1 in
    let i = c.loop-closure.closure-index in
    let closures : List (ℕ × List Member) = c.args.closures.now in
    let item : ℕ × List Member = c.closure-item.result in
    let found : slice_get closures i ≡ Some item = slice_get-get_or closures i item c.loop-closure-test.true ∙ ap Some (sym c.closure-item.is) in
    let at : slice_get closures i ≡ Some (item.0, c.members.result.now) = found ∙ ap (λ (ms : List Member). Some (item.0, ms)) (sym c.members.ensures.lent) in
    let before = enters c.args.pass.now.index.now closures c.args.pass.now.sought c.args.pass.now.numbers.now c.args.shown.now.entries c.requires.ascending i
    item.0 c.members.result.now at c.loop-closure.shown.entries c.loop-closure.invariant.so in
    let there : Contains closures (item.0, c.members.result.now) = Contains-slice_get closures i (item.0, c.members.result.now) at in
    c.in_err-scan_members.ensures.many closures c.args.shown.now.entries there c.requires.ascending before (cc (is, same, e))

pub returns-clause-shown : goal.returns-clause-shown
returns-clause-shown c =
    scanned_all c.args.pass.now.index.now c.args.closures.now c.args.pass.now.sought c.args.pass.now.numbers.now c.args.shown.now.entries
    c.loop-closure.closure-index (omega (arith, c.loop-closure-test.false)) c.loop-closure.shown.entries c.loop-closure.invariant.so
