use Rattle.std.proofs.Common.{◌≡◌, map, string_bytes, sym, ap, ◌∙◌, subst}
use Rattle.cq_io.specs.Faults.{TellsFault}
use Rattle.cqapri_words.specs.Refusals.{status_of}
use Rattle.cqapri_words.specs.Requests as request
use Rattle.cqapri_words.specs.declared.refusal.Refusal.TheVariants as refusal
use Rattle.cqapri_words.specs.declared.status.Status.TheVariants as status
use Rattle.cqapri_cli.specs.Ends.{IsEnd, WritesNothing, is_read_status, is_write_status}
use Rattle.cqapri_cli.proofs.RunLemmas.{achieved, by_status, complete_end, complete_refused, end_no_fault, end_not, end_writes, explained, never_end}
use Rattle.cqapri_cli.proofs.RunLemmas.{no_job_refused, none_or_part}
use Rattle.cqapri_cli.proofs.RunLemmas.{part, read_status, unwritten, words_refused, write_status}
use Rattle.cqapri_cli.proofs.top_call.run.Goals as goal

pub returns-in-Ok-clause-headline : goal.returns-in-Ok-clause-headline
returns-in-Ok-clause-headline g c =
    let words = map string_bytes c.args.words.now in
    let holds = g.S.Shelf.holds c.args.files.now in
    let failing = g.S.Shelf.failing c.args.files.now in
    let old = g.O.Sink.written c.args.out.now in
    let new = g.O.Sink.written c.run_words.new.out in
    let meaning = c.one_meaning.ensures.law in
    λ end n t w. achieved holds failing old new words meaning c.in-Ok.status c.in-Ok.ensures.achieved (request.classify n t) w

pub returns-in-Ok-clause-judged : goal.returns-in-Ok-clause-judged
returns-in-Ok-clause-judged g c =
    let words = map string_bytes c.args.words.now in
    let holds = g.S.Shelf.holds c.args.files.now in
    let failing = g.S.Shelf.failing c.args.files.now in
    let old = g.O.Sink.written c.args.out.now in
    let new = g.O.Sink.written c.run_words.new.out in
    let meaning = c.one_meaning.ensures.law in
    λ end n t w. achieved holds failing old new words meaning c.in-Ok.status c.in-Ok.ensures.achieved (request.confirm n t) w

pub returns-in-Ok-clause-tabled : goal.returns-in-Ok-clause-tabled
returns-in-Ok-clause-tabled g c =
    let words = map string_bytes c.args.words.now in
    let holds = g.S.Shelf.holds c.args.files.now in
    let failing = g.S.Shelf.failing c.args.files.now in
    let old = g.O.Sink.written c.args.out.now in
    let new = g.O.Sink.written c.run_words.new.out in
    let meaning = c.one_meaning.ensures.law in
    λ end n w. achieved holds failing old new words meaning c.in-Ok.status c.in-Ok.ensures.achieved (request.table n) w

pub returns-in-Ok-clause-counted : goal.returns-in-Ok-clause-counted
returns-in-Ok-clause-counted g c =
    let words = map string_bytes c.args.words.now in
    let holds = g.S.Shelf.holds c.args.files.now in
    let failing = g.S.Shelf.failing c.args.files.now in
    let old = g.O.Sink.written c.args.out.now in
    let new = g.O.Sink.written c.run_words.new.out in
    let meaning = c.one_meaning.ensures.law in
    λ end n w. achieved holds failing old new words meaning c.in-Ok.status c.in-Ok.ensures.achieved (request.bench n) w

pub returns-in-Ok-clause-complete : goal.returns-in-Ok-clause-complete
returns-in-Ok-clause-complete g c =
    let words = map string_bytes c.args.words.now in
    let holds = g.S.Shelf.holds c.args.files.now in
    let failing = g.S.Shelf.failing c.args.files.now in
    let old = g.O.Sink.written c.args.out.now in
    let new = g.O.Sink.written c.run_words.new.out in
    let meaning = c.one_meaning.ensures.law in
    complete_end c.each_end_is_one.ensures c.each_table_end_is_one.ensures failing words meaning _ _ holds old new c.in-Ok.status c.in-Ok.ensures.ended
    c.in-Ok.ensures.achieved

pub returns-in-Ok-clause-words : goal.returns-in-Ok-clause-words
returns-in-Ok-clause-words g c =
    let s = c.in-Ok.status in
    let end = c.in-Ok.ensures.ended in
    λ e. absurd (end_not s status.Words end (λ d. let both = d in absurd (cc)) (λ d. let both = d in absurd (cc)) e)

pub returns-in-Ok-clause-no_job : goal.returns-in-Ok-clause-no_job
returns-in-Ok-clause-no_job g c =
    let (q, w, a) = c.in-Ok.ensures.achieved in
    λ n. absurd (n q w)

pub returns-in-Ok-clause-no_such_job : goal.returns-in-Ok-clause-no_such_job
returns-in-Ok-clause-no_such_job g c =
    λ n. absurd (let refused = c.run_words.ensures.no_such_job n in let ended = c.in-Ok.is in cc)

pub returns-in-Ok-clause-told : goal.returns-in-Ok-clause-told
returns-in-Ok-clause-told g c =
    let s = c.in-Ok.status in
    let end = c.in-Ok.ensures.ended in
    λ n. absurd (n end)

pub returns-in-Ok-clause-read_fault : goal.returns-in-Ok-clause-read_fault
returns-in-Ok-clause-read_fault g c =
    let s = c.in-Ok.status in
    let end = c.in-Ok.ensures.ended in
    subst (TellsFault _ _) (sym (end_no_fault s end).0) c.in-Ok.ensures.read_fault

pub returns-in-Ok-clause-write_fault : goal.returns-in-Ok-clause-write_fault
returns-in-Ok-clause-write_fault g c =
    let s = c.in-Ok.status in
    let end = c.in-Ok.ensures.ended in
    subst (TellsFault _ _) (sym (end_no_fault s end).1) c.in-Ok.ensures.write_fault

pub returns-in-Ok-clause-nothing_written : goal.returns-in-Ok-clause-nothing_written
returns-in-Ok-clause-nothing_written g c =
    let s = c.in-Ok.status in
    let end = c.in-Ok.ensures.ended in
    λ n. end_writes s end n

pub returns-in-Ok-clause-part : goal.returns-in-Ok-clause-part
returns-in-Ok-clause-part g c =
    let s = c.in-Ok.status in
    let end = c.in-Ok.ensures.ended in
    λ e q w. absurd (end_not s status.WriteFault end (λ d. let both = d in absurd (cc)) (λ d. let both = d in absurd (cc)) e)

pub returns-in-Ok-clause-none_or_part : goal.returns-in-Ok-clause-none_or_part
returns-in-Ok-clause-none_or_part g c =
    let s = c.in-Ok.status in
    let end = c.in-Ok.ensures.ended in
    λ e q w. absurd (end_not s status.NoMemory end (λ d. let both = d in absurd (cc)) (λ d. let both = d in absurd (cc)) e)

pub returns-in-Err-clause-headline : goal.returns-in-Err-clause-headline
returns-in-Err-clause-headline g c =
    let r = c.in-Err.refusal in
    let e = c.status.ensures.exact in
    λ end. absurd (never_end r (subst IsEnd e end))

pub returns-in-Err-clause-judged : goal.returns-in-Err-clause-judged
returns-in-Err-clause-judged g c =
    let r = c.in-Err.refusal in
    let e = c.status.ensures.exact in
    λ end. absurd (never_end r (subst IsEnd e end))

pub returns-in-Err-clause-tabled : goal.returns-in-Err-clause-tabled
returns-in-Err-clause-tabled g c =
    let r = c.in-Err.refusal in
    let e = c.status.ensures.exact in
    λ end. absurd (never_end r (subst IsEnd e end))

pub returns-in-Err-clause-counted : goal.returns-in-Err-clause-counted
returns-in-Err-clause-counted g c =
    let r = c.in-Err.refusal in
    let e = c.status.ensures.exact in
    λ end. absurd (never_end r (subst IsEnd e end))

pub returns-in-Err-clause-silent : goal.returns-in-Err-clause-silent
returns-in-Err-clause-silent g c =
    let r = c.in-Err.refusal in
    let e = c.status.ensures.exact in
    λ end. absurd (never_end r (subst IsEnd e end))

pub returns-in-Err-clause-complete : goal.returns-in-Err-clause-complete
returns-in-Err-clause-complete g c =
    let words = map string_bytes c.args.words.now in
    let holds = g.S.Shelf.holds c.args.files.now in
    let failing = g.S.Shelf.failing c.args.files.now in
    let old = g.O.Sink.written c.args.out.now in
    let new = g.O.Sink.written c.run_words.new.out in
    let meaning = c.one_meaning.ensures.law in
    let r = c.in-Err.refusal in
    let e = c.status.ensures.exact in
    complete_refused c.each_end_is_one.ensures c.each_table_end_is_one.ensures failing words meaning holds c.status.result r e
    (explained holds failing old new words r c.in-Err.ensures.refused) _ _ _ _ c.in-Err.ensures.read_fault c.in-Err.ensures.write_fault

pub returns-in-Err-clause-words : goal.returns-in-Err-clause-words
returns-in-Err-clause-words g c =
    let words = map string_bytes c.args.words.now in
    let holds = g.S.Shelf.holds c.args.files.now in
    let failing = g.S.Shelf.failing c.args.files.now in
    let old = g.O.Sink.written c.args.out.now in
    let new = g.O.Sink.written c.run_words.new.out in
    let r = c.in-Err.refusal in
    let e = c.status.ensures.exact in
    λ d. words_refused holds failing words r (explained holds failing old new words r c.in-Err.ensures.refused) (sym e ∙ d)

pub returns-in-Err-clause-no_job : goal.returns-in-Err-clause-no_job
returns-in-Err-clause-no_job g c =
    let words = map string_bytes c.args.words.now in
    let holds = g.S.Shelf.holds c.args.files.now in
    let failing = g.S.Shelf.failing c.args.files.now in
    let old = g.O.Sink.written c.args.out.now in
    let new = g.O.Sink.written c.run_words.new.out in
    let r = c.in-Err.refusal in
    let e = c.status.ensures.exact in
    λ n. by_status r c.status.result e (no_job_refused holds failing words r (explained holds failing old new words r c.in-Err.ensures.refused) n)

pub returns-in-Err-clause-no_such_job : goal.returns-in-Err-clause-no_such_job
returns-in-Err-clause-no_such_job g c =
    let r = c.in-Err.refusal in
    let e = c.status.ensures.exact in
    λ n.
    let refused = c.run_words.ensures.no_such_job n in
    let given = c.in-Err.is in
    let same : r ≡ refusal.Words = cc in
    e ∙ ap status_of same

pub returns-in-Err-clause-told : goal.returns-in-Err-clause-told
returns-in-Err-clause-told g c =
    let words = map string_bytes c.args.words.now in
    let holds = g.S.Shelf.holds c.args.files.now in
    let failing = g.S.Shelf.failing c.args.files.now in
    let old = g.O.Sink.written c.args.out.now in
    let new = g.O.Sink.written c.run_words.new.out in
    let r = c.in-Err.refusal in
    let e = c.status.ensures.exact in
    λ n. (r, sym e, explained holds failing old new words r c.in-Err.ensures.refused, c.tell.ensures.told)

pub returns-in-Err-clause-read_fault : goal.returns-in-Err-clause-read_fault
returns-in-Err-clause-read_fault g c =
    let r = c.in-Err.refusal in
    let e = c.status.ensures.exact in
    subst (TellsFault _ _) (sym (ap is_read_status e ∙ read_status r)) c.in-Err.ensures.read_fault

pub returns-in-Err-clause-write_fault : goal.returns-in-Err-clause-write_fault
returns-in-Err-clause-write_fault g c =
    let r = c.in-Err.refusal in
    let e = c.status.ensures.exact in
    subst (TellsFault _ _) (sym (ap is_write_status e ∙ write_status r)) c.in-Err.ensures.write_fault

pub returns-in-Err-clause-nothing_written : goal.returns-in-Err-clause-nothing_written
returns-in-Err-clause-nothing_written g c =
    let words = map string_bytes c.args.words.now in
    let holds = g.S.Shelf.holds c.args.files.now in
    let failing = g.S.Shelf.failing c.args.files.now in
    let old = g.O.Sink.written c.args.out.now in
    let new = g.O.Sink.written c.run_words.new.out in
    let r = c.in-Err.refusal in
    let e = c.status.ensures.exact in
    λ n. unwritten holds failing old new words r (subst WritesNothing e n) c.in-Err.ensures.refused

pub returns-in-Err-clause-part : goal.returns-in-Err-clause-part
returns-in-Err-clause-part g c =
    let words = map string_bytes c.args.words.now in
    let holds = g.S.Shelf.holds c.args.files.now in
    let failing = g.S.Shelf.failing c.args.files.now in
    let old = g.O.Sink.written c.args.out.now in
    let new = g.O.Sink.written c.run_words.new.out in
    let meaning = c.one_meaning.ensures.law in
    let r = c.in-Err.refusal in
    let e = c.status.ensures.exact in
    λ s q w. part holds failing old new words meaning r (sym e ∙ s) c.in-Err.ensures.refused q w

pub returns-in-Err-clause-none_or_part : goal.returns-in-Err-clause-none_or_part
returns-in-Err-clause-none_or_part g c =
    let words = map string_bytes c.args.words.now in
    let holds = g.S.Shelf.holds c.args.files.now in
    let failing = g.S.Shelf.failing c.args.files.now in
    let old = g.O.Sink.written c.args.out.now in
    let new = g.O.Sink.written c.run_words.new.out in
    let meaning = c.one_meaning.ensures.law in
    let r = c.in-Err.refusal in
    let e = c.status.ensures.exact in
    λ s q w. none_or_part holds failing old new words meaning r (sym e ∙ s) c.in-Err.ensures.refused q w
