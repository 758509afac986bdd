-- A side, the sign, a side and the end.
use Rattle.std.proofs.Common.{refl}
use Rattle.axiom_reader.specs.Lines.{words_of}
use Rattle.axiom_reader.specs.Parts.{axiom_of, roles_at, is_ended}
use Rattle.axiom_reader.proofs.ParseLemmas.{map_then_some}
use Rattle.axiom_reader.proofs.axiom.roles.Goals as goal

pub returns-in_err-left : goal.returns-in_err-left
unfolding roles_at
returns-in_err-left c = record { exact = rw (c.from_residual.ensures, ← c.in_err-left.ensures.exact) refl }

pub returns-in_err-negated : goal.returns-in_err-negated
unfolding roles_at
returns-in_err-negated c =
    record { exact = rw (c.from_residual-in_err-negated.ensures, ← c.in_ok-left.ensures.exact, ← c.in_err-negated.ensures.exact) refl }

pub returns-in_err-right : goal.returns-in_err-right
unfolding roles_at
returns-in_err-right c =
    record {
      exact = rw (c.from_residual-in_err-right.ensures, ← c.in_ok-left.ensures.exact, ← c.in_ok-negated.ensures.exact, ← c.in_err-right.ensures.exact) refl;
    }

pub returns : goal.returns
unfolding roles_at
returns c =
    record {
      exact =
          rw (c.then_some.ensures, c.is_end.ensures.exact, ← c.in_ok-left.ensures.exact, ← c.in_ok-negated.ensures.exact, ← c.in_ok-right.ensures.exact)
          (map_then_some axiom_of (is_ended (words_of c.in_ok-right.rest.now)) _);
    }
