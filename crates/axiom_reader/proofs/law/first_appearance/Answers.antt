-- A new name goes last, and an old one stays.
use Rattle.axiom_reader.proofs.TextLemmas.{keeps_number, next_number}
use Rattle.axiom_reader.proofs.law.first_appearance.Goals as goal

pub returns : goal.returns
returns c = record { next = next_number; kept = keeps_number }
