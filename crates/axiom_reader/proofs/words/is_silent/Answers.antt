-- The first byte that isn't a blank decides.
use Rattle.std.proofs.Common.{sym}
use Rattle.axiom_reader.proofs.WordLemmas.{silent_blanks, silent_first}
use Rattle.axiom_reader.proofs.words.is_silent.Goals as goal

pub returns-in-Some : goal.returns-in-Some
returns-in-Some c = record { exact = sym (silent_first _ _ (sym c.in-Some.ensures.exact)) }

pub returns-in-None : goal.returns-in-None
returns-in-None c = record { exact = sym (silent_blanks _ (sym c.in-None.ensures.exact)) }
