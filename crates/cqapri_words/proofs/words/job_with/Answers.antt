use Rattle.std.proofs.Common.{map, string_bytes}
use Rattle.clap.specs.Words.{found_of, rows_of}
use Rattle.cqapri_words.proofs.JobLemmas.{nothing_given}
use Rattle.cqapri_words.proofs.words.job_with.Goals as goal

pub returns-clause-none : goal.returns-clause-none
returns-clause-none c =
    λ words. nothing_given c.args.job (map string_bytes c.args.rest.now) (rows_of (found_of c.in_ok-matches.matches)) c.in_ok-matches.ensures.found
    c.in-None.ensures.none
