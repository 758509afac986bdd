use Rattle.cqapri_words.proofs.PlainLemmas as lemmas
use Rattle.cqapri_words.proofs.law.takes_plain_words.Goals as goal

pub returns : goal.returns
returns c = record { law = lemmas.takes_plain_words }
