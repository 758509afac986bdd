use Rattle.std.proofs.Common.{subst}
use Rattle.axiom_reader.specs.Meaning.{IsRefused}
use Rattle.cqapri_words.specs.declared.files.File.TheVariants as file
use Rattle.input_files.proofs.StopLemmas.{stops_by_reader}
use Rattle.input_files.proofs.texts.read_ontology.Goals as goal

pub returns-clause-refused : goal.returns-clause-refused
returns-clause-refused g c =
    stops_by_reader 0 (g.S.Shelf.holds c.args.files.now) c.args.name.now c.in_ok-bytes.bytes.items file.Ontology c.in_ok-bytes.ensures.exact c.of_axioms.result
    (c.in-Err.refused, subst (λ b. IsRefused b c.in-Err.refused) c.deref.ensures.value c.in-Err.ensures.refused, c.of_axioms.ensures.exact)
