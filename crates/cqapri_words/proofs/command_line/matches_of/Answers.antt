use Rattle.std.proofs.Common.{map, string_bytes, sym, ◌∙◌}
use Rattle.clap.specs.Words.{app_of, fault_of}
use Rattle.cqapri_words.proofs.CommandLemmas.{app_is_known, app_is_plain, has_fault, same_faults, same_rows}
use Rattle.cqapri_words.proofs.command_line.matches_of.Goals as goal

pub returns-in-Ok-try_get_matches_from-clause-taken :
    goal.returns-in-Ok-try_get_matches_from-clause-taken
returns-in-Ok-try_get_matches_from-clause-taken c =
    same_faults (app_of c.in-Ok.command) c.args.job c.in-Ok.ensures.exact (map string_bytes c.args.words.now)
    ∙ c.in-Ok-try_get_matches_from.ensures.kinds (app_is_known (app_of c.in-Ok.command) c.args.job c.in-Ok.ensures.exact)

pub returns-in-Ok-try_get_matches_from-clause-found :
    goal.returns-in-Ok-try_get_matches_from-clause-found
returns-in-Ok-try_get_matches_from-clause-found c =
    (c.in-Ok-try_get_matches_from.ensures.matches (app_is_plain (app_of c.in-Ok.command) c.args.job c.in-Ok.ensures.exact)).0
    ∙ same_rows (app_of c.in-Ok.command) c.args.job c.in-Ok.ensures.exact (map string_bytes c.args.words.now)

pub returns-in-Err-try_get_matches_from-clause-refused :
    goal.returns-in-Err-try_get_matches_from-clause-refused
returns-in-Err-try_get_matches_from-clause-refused c =
    λ words none. has_fault (fault_of (app_of c.in-Ok.command) (map string_bytes c.args.words.now)) c.in-Err-try_get_matches_from.error
    (c.in-Err-try_get_matches_from.ensures.kinds (app_is_known (app_of c.in-Ok.command) c.args.job c.in-Ok.ensures.exact))
    (c.refusal_of.ensures.words words)
    (sym (same_faults (app_of c.in-Ok.command) c.args.job c.in-Ok.ensures.exact (map string_bytes c.args.words.now)) ∙ none)
