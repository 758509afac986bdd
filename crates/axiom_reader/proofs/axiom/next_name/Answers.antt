-- The first word is a name or none.
use Rattle.std.proofs.Common.{refl}
use Rattle.axiom_reader.specs.Name.{is_name_text}
use Rattle.axiom_reader.specs.Parts.{name_at}
use Rattle.axiom_reader.proofs.TestLemmas.{untrue}
use Rattle.axiom_reader.proofs.axiom.next_name.Goals as goal

pub returns-in_err-word : goal.returns-in_err-word
unfolding name_at
returns-in_err-word c = record { exact = rw (c.from_residual.ensures, c.in_err-word.ensures.none) refl }

pub returns-in_err-name : goal.returns-in_err-name
unfolding name_at
returns-in_err-name c =
    record {
      exact = rw (
        c.from_residual-in_err-name.ensures,
        c.in_ok-word.ensures.found,
        untrue (is_name_text c.in_ok-word.word.now) c.in_err-name.ensures.none,
      ) refl;
    }

pub returns : goal.returns
unfolding name_at
returns c = record { exact = rw (c.in_ok-word.ensures.found, c.in_ok-name.ensures.found.1, c.in_ok-name.ensures.found.0) refl }
