-- `some` and a role, or else a name.
use Rattle.std.proofs.Common.{refl}
use Rattle.axiom_reader.specs.Parts.{basic_at}
use Rattle.axiom_reader.proofs.axiom.basic.Goals as goal

pub returns-in_err-role : goal.returns-in_err-role
unfolding basic_at
returns-in_err-role c = record { exact = rw (c.from_residual.ensures, ← c.skip_word-some.ensures.exact, c.if-some.true, ← c.in_err-role.ensures.exact) refl }

pub returns-in_err-name : goal.returns-in_err-name
unfolding basic_at
returns-in_err-name c =
    record { exact = rw (c.from_residual-in_err-name.ensures, ← c.skip_word-some.ensures.exact, c.if-some.false, ← c.in_err-name.ensures.exact) refl }

pub returns-in_ok-role : goal.returns-in_ok-role
unfolding basic_at
returns-in_ok-role c = record { exact = rw (← c.skip_word-some.ensures.exact, c.if-some.true, ← c.in_ok-role.ensures.exact) refl }

pub returns-in_ok-name : goal.returns-in_ok-name
unfolding basic_at
returns-in_ok-name c = record { exact = rw (← c.skip_word-some.ensures.exact, c.if-some.false, ← c.in_ok-name.ensures.exact) refl }
