-- The files that the words name, their limits, and the words for them in texts.
use Rattle.std.specs.Prelude.{ℕ, List, codes}
use Rattle.cqapri_words.specs.declared.files.File.{File}
use Rattle.cqapri_words.specs.declared.files.File.TheVariants as file
use Rattle.cqapri_words.specs.declared.files.Quantity.{Quantity}
use Rattle.cqapri_words.specs.declared.files.Quantity.TheVariants as quantity

-- the word for a file
abbrev pub file_text : File → List ℕ
file_text file.Ontology = codes "ontology"
file_text file.Facts = codes "facts"
file_text file.Priority = codes "priority"
file_text file.Query = codes "query"
file_text file.Report = codes "report"

-- how many bytes a file may have
abbrev pub limit_of : File → ℕ
limit_of file.Ontology = 16777216
limit_of file.Facts = 67108864
limit_of file.Priority = 16777216
limit_of file.Query = 65536
limit_of file.Report = 268435456

-- the quantity that is the length of a file
abbrev pub length_of : File → Quantity
length_of file.Ontology = quantity.OntologyLength
length_of file.Facts = quantity.FactsLength
length_of file.Priority = quantity.PriorityLength
length_of file.Query = quantity.QueryLength
length_of file.Report = quantity.ReportLength

-- the words for a quantity
abbrev pub quantity_text : Quantity → List ℕ
quantity_text quantity.OntologyLength = codes "ontology length"
quantity_text quantity.Axioms = codes "axioms"
quantity_text quantity.FactsLength = codes "facts length"
quantity_text quantity.Records = codes "records"
quantity_text quantity.PriorityLength = codes "priority length"
quantity_text quantity.Pairs = codes "pairs"
quantity_text quantity.QueryLength = codes "query length"
quantity_text quantity.QueryAtoms = codes "query atoms"
quantity_text quantity.Closure = codes "closure"
quantity_text quantity.Conflicts = codes "conflicts"
quantity_text quantity.Supports = codes "supports"
quantity_text quantity.ReportLength = codes "report length"
