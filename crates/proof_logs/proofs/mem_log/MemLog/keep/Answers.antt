use Rattle.std.proofs.Common.{◌≡◌, ℕ, ◌++◌, ◌∷◌, [], List, Option, Some, ap, ◌∙◌}
use Rattle.proof_logs.specs.Logs.{Learned, LogContent}
use Rattle.proof_logs.specs.MemLogs.{LogState, numbered}
use Rattle.proof_logs.proofs.LogLemmas.{numbered-push}
use Rattle.proof_logs.proofs.mem_log.MemLog.keep.Goals as goal

pub returns-clause-content : goal.returns-clause-content
returns-clause-content c =
    let inside = c.self.inside in
    let number = c.args.number in
    let clause = c.args.clause in
    let entry : Learned = record { number = number; clause = clause } in
    let numbers : c.push-2.new.self.items ≡ inside.numbers.items ++ number ∷ [] =
    c.in-Ok.ensures.items ∙ ap (λ (ns : List ℕ). ns ++ number ∷ []) c.in_ok-reserve.ensures.items in
    let clauses : c.push.new.self.items ≡ inside.clauses.items ++ clause ∷ [] = c.in_ok-push.ensures.items in
    let both : numbered c.push-2.new.self.items c.push.new.self.items ≡ numbered inside.numbers.items inside.clauses.items ++ entry ∷ [] =
    ap (λ (ns : List ℕ). numbered ns c.push.new.self.items) numbers
    ∙ (ap (numbered (inside.numbers.items ++ number ∷ [])) clauses ∙ numbered-push inside.numbers.items inside.clauses.items number clause c.self.invariant) in
    let content : List Learned → Option LogContent = λ xs. Some (record { clauses = xs; torn = inside.torn }) in
    ap content both
    ∙ ap (λ (l : LogState). Some (record { clauses = numbered l.numbers l.clauses ++ entry ∷ []; torn = l.torn })) c.self.view_is
