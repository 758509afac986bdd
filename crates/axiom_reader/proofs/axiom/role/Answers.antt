-- `inv` or not, and then a name.
use Rattle.std.proofs.Common.{refl}
use Rattle.axiom_reader.specs.Parts.{role_at}
use Rattle.axiom_reader.proofs.axiom.role.Goals as goal

pub returns-in_err-name : goal.returns-in_err-name
unfolding role_at
returns-in_err-name c = record { exact = rw (c.from_residual.ensures, ← c.skip_word-inverse.ensures.exact, ← c.in_err-name.ensures.exact) refl }

pub returns : goal.returns
unfolding role_at
returns c = record { exact = rw (← c.skip_word-inverse.ensures.exact, ← c.in_ok-name.ensures.exact) refl }
