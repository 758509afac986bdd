-- `<`, and then `not` or not.
use Rattle.std.proofs.Common.{refl}
use Rattle.axiom_reader.specs.Parts.{sign_at}
use Rattle.axiom_reader.proofs.axiom.sign.Goals as goal

pub returns-then-less : goal.returns-then-less
unfolding sign_at
returns-then-less c = record { exact = rw (← c.skip_word-less.ensures.exact, c.if-less.true, ← c.skip_word.ensures.exact) refl }

pub returns-else-less : goal.returns-else-less
unfolding sign_at
returns-else-less c = record { exact = rw (← c.skip_word-less.ensures.exact, c.if-less.false) refl }
