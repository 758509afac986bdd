use Rattle.input_files.proofs.LawLemmas.{ReaderLaws}
use Rattle.input_files.proofs.OneEndLemmas.{accepted_files, report_there, said_accepted, same_files, same_report}
use Rattle.input_files.proofs.law.one_end.Goals as goal

pub returns : goal.returns
returns c =
    let laws : ReaderLaws = record {
      ontologies = c.one_reading.ensures.text;
      tables = c.one_reading-2.ensures.facts;
      priorities = c.one_reading-2.ensures.pairs;
      queries = c.laws_of_the_grammar.ensures.reading;
      faults = c.laws_of_the_grammar.ensures.fault;
    } in
    record {
      files = record {
        one = λ held names r s k m x y. same_files laws held names r s k m x y;
        none = λ held names r k x all. accepted_files laws held names all r k x;
        said = λ held names kb query vocab say. said_accepted held names kb query vocab say;
      };
      report = record {
        one = λ held name r s k m x y. same_report held name r s k m x y;
        none = λ held name r k x there. report_there held name r k x there;
      };
    }
