use Rattle.std.proofs.Common.{subst}
use Rattle.query_reader.specs.Queries.{Explains, after_marks}
use Rattle.cqapri_words.specs.declared.files.File.TheVariants as file
use Rattle.input_files.proofs.StopLemmas.{stops_by_reader}
use Rattle.input_files.proofs.texts.read_query.Goals as goal

pub returns-clause-refused : goal.returns-clause-refused
returns-clause-refused g c =
    stops_by_reader 0 (g.S.Shelf.holds c.args.files.now) c.args.name.now c.in_ok-bytes.bytes.items file.Query c.in_ok-bytes.ensures.exact c.of_query.result
    (c.in-Err.refused, subst (λ b. Explains (after_marks b) c.in-Err.refused) c.deref.ensures.value c.in-Err.ensures.refused, c.of_query.ensures.exact)
