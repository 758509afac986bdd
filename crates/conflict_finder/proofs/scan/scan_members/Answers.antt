use Rattle.std.proofs.Common.{ℕ, suc, ◌+◌, ◌≡◌, ◌∙◌, sym, subst, ap, refl, arith, Some, slice_get}
use Rattle.std.proofs.lemmas.Option.{slice_get-get_or}
use Rattle.std.proofs.lemmas.Result.{err_from_is_err_and}
use Rattle.cq_steps.specs.declared.closure.Member.{Member}
use Rattle.conflict_finder.specs.FirstShown.{IsScanned, IsEarlier}
use Rattle.conflict_finder.proofs.Scanning.{scanned_more, scanned_many}
use Rattle.conflict_finder.proofs.scan.scan_members.Goals as goal

pub loop-member-init : goal.loop-member-init
loop-member-init c = record { place = refl; few = c.requires.few; so = λ closures first there a s. s }

pub loop-member-preserved : goal.loop-member-preserved
loop-member-preserved c =
    let i = c.loop-member.member-index in
    let m : Member = c.member-item.result in
    let at : slice_get c.args.members.now i ≡ Some m = slice_get-get_or c.args.members.now i m c.loop-member-test.true ∙ ap Some (sym c.member-item.is) in
    record {
      place = omega (arith, c.loop-member.invariant.place);
      few = c.in_ok-scan_query.ensures.few;
      so = λ closures first there a s.
          subst (λ n. IsScanned c.args.pass.now.index.now closures c.args.pass.now.sought c.args.pass.now.numbers.now (IsEarlier c.args.rule n) first
          c.scan_query.new.shown.entries) (next i)
          (scanned_more c.args.pass.now.index.now closures c.args.pass.now.sought c.args.pass.now.numbers.now first c.args.rule i c.args.members.now m there
          at a c.loop-member.shown.entries
          (c.loop-member.invariant.so closures first there a s) (record { rule = c.args.rule; member = c.loop-member.place }) refl
          c.loop-member.invariant.place c.scan_query.new.shown.entries c.in_ok-scan_query.ensures.adds);
    }
  where
    next : (n : ℕ) → suc n ≡ n + 1
    next n = omega arith

pub returns-in_err-scan_query-clause-many : goal.returns-in_err-scan_query-clause-many
returns-in_err-scan_query-clause-many c = λ closures first there a s e.
    let (y, is, same) = err_from_is_err_and c.from_residual.result c.from_residual.ensures.1 in
    let i = c.loop-member.member-index in
    let m : Member = c.member-item.result in
    let at : slice_get c.args.members.now i ≡ Some m = slice_get-get_or c.args.members.now i m c.loop-member-test.true ∙ ap Some (sym c.member-item.is) in
    scanned_many c.args.pass.now.index.now closures c.args.pass.now.sought c.args.pass.now.numbers.now first c.args.rule i c.args.members.now m there at a
    c.loop-member.shown.entries
    (c.loop-member.invariant.so closures first there a s) c.args.pass.now.limit (c.in_err-scan_query.ensures.many (cc (is, same, e)))

pub returns-clause-shown : goal.returns-clause-shown
returns-clause-shown c = λ closures first there a s.
    let i = c.loop-member.member-index in
    subst (λ n. IsScanned c.args.pass.now.index.now closures c.args.pass.now.sought c.args.pass.now.numbers.now (IsEarlier c.args.rule n) first
    c.loop-member.shown.entries) (omega (arith, c.loop-member-test.false))
    (c.loop-member.invariant.so closures first there a s)
