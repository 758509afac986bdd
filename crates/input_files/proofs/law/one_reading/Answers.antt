use Rattle.input_files.proofs.SayLemmas.{files_say_one}
use Rattle.input_files.proofs.law.one_reading.Goals as goal

pub returns : goal.returns
returns c = record {
  law = λ held names kb other q r v w a b.
      files_say_one c.one_reading.ensures.text c.laws_of_the_grammar.ensures.reading held names kb other q r v w a b;
}
