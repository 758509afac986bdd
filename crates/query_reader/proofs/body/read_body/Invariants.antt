use Rattle.std.proofs.Common.{length}
use Rattle.query_reader.specs.Numbering.{numbers_of}
use Rattle.query_reader.proofs.BodyLemmas.{IsBodyPart}
use Rattle.query_reader.proofs.body.read_body.Given as goal

abbrev pub invariant-atoms : goal.invariant-atoms
invariant-atoms l = IsBodyPart l.text l.rest (numbers_of l.initial.variables l.initial.vocab) (numbers_of l.variables l.vocab) l.atoms.items

abbrev pub decreases-atoms : goal.decreases-atoms
decreases-atoms l = length l.rest
