-- The first line ends at the first LF, or at the end of the text.
use Rattle.axiom_reader.proofs.LineLemmas.{first_ended_is, first_last_is}
use Rattle.axiom_reader.proofs.lines.first_line.Goals as goal

pub returns-in-Some : goal.returns-in-Some
returns-in-Some c = record { exact = first_ended_is _ _ _ c.in-Some.ensures.exact c.without_return.ensures.exact c.without_return.ensures.shorter }

pub returns-in-None : goal.returns-in-None
returns-in-None c =
    record { exact = first_last_is _ _ c.requires.more c.in-None.ensures.exact c.without_return-in-None.ensures.exact c.without_return-in-None.ensures.shorter }
