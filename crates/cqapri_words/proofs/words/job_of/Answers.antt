use Rattle.std.proofs.Common.{IfOk, map, string_bytes, sym, subst}
use Rattle.cqapri_words.specs.Jobs.{AreWordsOf}
use Rattle.cqapri_words.proofs.JobLemmas.{job_words}
use Rattle.cqapri_words.proofs.words.job_of.Goals as goal

pub returns-in-Some-named-clause-found : goal.returns-in-Some-named-clause-found
returns-in-Some-named-clause-found c =
    subst (λ words. IfOk c.job_with.result (AreWordsOf words))
    (sym (job_words string_bytes c.args.words.now c.in-Some.first.now c.in-Some.rest.now _ c.in-Some-named.job c.in-Some.ensures.cases.0
    c.as_str.ensures.value c.in-Some-named.ensures.exact)) c.job_with.ensures.found

pub returns-in-Some-named-clause-no_such_job : goal.returns-in-Some-named-clause-no_such_job
returns-in-Some-named-clause-no_such_job c =
    λ none. absurd (none c.in-Some-named.job (map string_bytes c.in-Some.rest.now) (job_words string_bytes c.args.words.now c.in-Some.first.now
    c.in-Some.rest.now _ c.in-Some-named.job c.in-Some.ensures.cases.0 c.as_str.ensures.value c.in-Some-named.ensures.exact))
