use Rattle.std.proofs.Common.{◌≡◌, ℕ, length, sym, subst, ap, arith}
use Rattle.clause_meaning.specs.Literals.{AreBelow}
use Rattle.trail_tests.proofs.LessonsTestLemmas.{long_pushed}
use Rattle.trail_tests.proofs.lessons.put.Goals as goal

pub push-requires-clause-some : goal.push-requires-clause-some
push-requires-clause-some c = λ e. (let short : length c.args.clause.now ≡ 0 = ap length e in omega (arith, short, c.requires.clause.two))

pub push-requires-clause-in_range : goal.push-requires-clause-in_range
push-requires-clause-in_range c = subst (λ (n : ℕ). AreBelow n c.args.clause.now) (sym c.requires.long.variables) c.requires.clause.in_range

pub returns : goal.returns
returns c =
    long_pushed c.args.arena.now c.push.new.self c.in_ok-push.field-0.place c.args.clause.now c.requires.long c.requires.clause c.in_ok-push.ensures.exact
