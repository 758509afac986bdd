use Rattle.std.proofs.Common.{ℕ, sym, subst}
use Rattle.rup_check.specs.State.{IsLive}
use Rattle.checker_tests.proofs.checkers.put_two.Goals as goal

pub forget-requires : goal.forget-requires
forget-requires g c = record {
  live = c.in_ok-put_some-2.ensures.kept c.args.number
      (subst (λ (n : ℕ). IsLive c.put_some.new.checker.live n) (sym c.requires.number) c.in_ok-put_some.ensures.live);
}
