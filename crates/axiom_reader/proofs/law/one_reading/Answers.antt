-- Both are computed.
use Rattle.axiom_reader.proofs.OutcomeLemmas.{comes_once, comes_some, gives_once, gives_some}
use Rattle.axiom_reader.proofs.law.one_reading.Goals as goal

pub returns : goal.returns
returns c = record {
  line = λ line. (gives_some line, gives_once line);
  text = λ bytes. (comes_some bytes, comes_once bytes);
}
