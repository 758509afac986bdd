-- The first word is compared.
use Rattle.std.proofs.Common.{refl, sym, ◌∙◌}
use Rattle.axiom_reader.specs.Parts.{skip_word}
use Rattle.axiom_reader.proofs.words.skip_word.Goals as goal
use Rattle.axiom_reader.proofs.words.skip_word.Goals.{in_default-via-in-Some+else-eq, in_default-via-in_default}

pub returns-in-Some : goal.returns-in-Some
unfolding skip_word
returns-in-Some c = record { exact = rw (c.in-Some.ensures.found, sym c.eq.ensures ∙ c.if-eq.true) refl }

pub returns-in_default : goal.returns-in_default
unfolding skip_word
returns-in_default c =
    elim c.in_default.branch [
      | in_default-via-in-Some+else-eq w ↦ record { exact = rw (w.in-Some.ensures.found, sym w.eq.ensures ∙ w.if-eq.false) refl }
      | in_default-via-in_default w ↦ record { exact = rw w.in_default.ensures.none refl }
    ]
