-- A draft is checked, and a halt explained.
use Rattle.std.proofs.Common.{subst, arith, IfOk, IfErr}
use Rattle.query_reader.specs.Queries.{Explains, IsQueryOf}
use Rattle.query_reader.proofs.MarkLemmas.{text_room, text_fits, text_grown, both_ok, if_err}
use Rattle.query_reader.proofs.QueryLemmas.{query_is, draft_refused, halt_within}
use Rattle.query_reader.proofs.read.read_query.Goals as goal

pub read_draft-requires : goal.read_draft-requires
read_draft-requires c = record { room = text_room _ _ _ c.after_marks-text.ensures.exact c.requires.room }

pub checked-requires-clause-fits : goal.checked-requires-clause-fits
checked-requires-clause-fits c = omega (arith, c.in-Ok.ensures.found.counted, text_fits _ _ _ c.after_marks-text.ensures.exact c.requires.room)

pub refusal_of-requires-clause-fits : goal.refusal_of-requires-clause-fits
refusal_of-requires-clause-fits c = text_fits _ _ _ c.after_marks-text.ensures.exact c.requires.room

pub refusal_of-requires-clause-within : goal.refusal_of-requires-clause-within
refusal_of-requires-clause-within c = halt_within _ _ c.in-Err.ensures.halt

pub returns-in-Ok-clause-exact : goal.returns-in-Ok-clause-exact
returns-in-Ok-clause-exact c =
    subst
    (λ text. IfOk c.checked.result (λ query. IsQueryOf text c.args.vocab.now c.read_draft.new.vocab query))
    c.after_marks-text.ensures.exact
    (both_ok c.checked.result _ _ _ (λ query same accepted. query_is _ _ _ _ query c.in-Ok.ensures.found accepted same) c.checked.ensures.exact
    c.checked.ensures.accepted)

pub returns-in-Ok-clause-refused : goal.returns-in-Ok-clause-refused
returns-in-Ok-clause-refused c =
    subst
    (λ text. IfErr c.checked.result (λ refusal. Explains text refusal))
    c.after_marks-text.ensures.exact
    (if_err c.checked.result _ _ (λ refusal why. draft_refused _ _ _ _ refusal c.in-Ok.ensures.found why) c.checked.ensures.refused)

pub returns-in-Ok-clause-grown : goal.returns-in-Ok-clause-grown
returns-in-Ok-clause-grown c = text_grown _ _ _ _ c.after_marks-text.ensures.exact c.in-Ok.ensures.grown

pub returns-in-Err-clause-grown : goal.returns-in-Err-clause-grown
returns-in-Err-clause-grown c = text_grown _ _ _ _ c.after_marks-text.ensures.exact c.in-Err.ensures.grown
