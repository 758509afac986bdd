use Rattle.cqapri_words.proofs.JobLemmas as lemmas
use Rattle.cqapri_words.proofs.law.one_meaning.Goals as goal

pub returns : goal.returns
returns c = record { law = lemmas.one_meaning }
