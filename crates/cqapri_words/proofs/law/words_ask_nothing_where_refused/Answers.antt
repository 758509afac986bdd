use Rattle.cqapri_words.proofs.ExactLemmas as lemmas
use Rattle.cqapri_words.proofs.law.words_ask_nothing_where_refused.Goals as goal

pub returns : goal.returns
returns c = record { law = lemmas.words_ask_nothing_where_refused }
