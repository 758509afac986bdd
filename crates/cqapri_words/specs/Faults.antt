-- The texts of faults.
use Rattle.std.specs.Prelude.{ℕ, List, ◌++◌, codes, decimal}
use Rattle.cqapri_words.specs.declared.fault.Fault.{Fault}
use Rattle.cqapri_words.specs.declared.fault.Fault.TheVariants as fault

-- what a fault's text says after `cqapri: `: where it is and what is wrong there
abbrev pub fault_text : Fault → List ℕ
fault_text (fault.LineNotUtf8 line) = codes "ontology: line " ++ (decimal line ++ codes ": not UTF-8")
fault_text (fault.BadLine line) = codes "ontology: line " ++ (decimal line ++ codes ": bad line")
fault_text (fault.BadWidth number) = codes "facts: record " ++ (decimal number ++ codes ": bad width")
fault_text (fault.RecordNotUtf8 number) = codes "facts: record " ++ (decimal number ++ codes ": not UTF-8")
fault_text (fault.EmptyField number) = codes "facts: record " ++ (decimal number ++ codes ": empty field")
fault_text (fault.PairWidth number) = codes "priority: record " ++ (decimal number ++ codes ": bad width")
fault_text (fault.BadNumber number) = codes "priority: record " ++ (decimal number ++ codes ": bad number")
fault_text (fault.NoSuchRecord number) = codes "priority: record " ++ (decimal number ++ codes ": no such record")
fault_text (fault.BadToken at) = codes "query: byte " ++ (decimal at ++ codes ": bad token")
fault_text (fault.RepeatedHead place) = codes "query: head place " ++ (decimal place ++ codes ": repeated")
fault_text (fault.HeadNotInBody place) = codes "query: head place " ++ (decimal place ++ codes ": not in body")
fault_text (fault.ReportLine line) = codes "report: line " ++ (decimal line ++ codes ": bad line")
