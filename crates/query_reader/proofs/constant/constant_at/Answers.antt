-- A constant at the front has the inside that was found.
use Rattle.std.proofs.Common.{sym, ◌∙◌, ap}
use Rattle.query_reader.specs.Tokens.{doubled}
use Rattle.query_reader.specs.Parts.{halved}
use Rattle.query_reader.proofs.InsideLemmas.{front_constant, no_empty, utf8_inside, constant_stands, inside_is}
use Rattle.query_reader.proofs.RunLemmas.{empty_is, some_are}
use Rattle.query_reader.proofs.constant.constant_at.Goals as goal

pub returns-in_err-after-clause-none : goal.returns-in_err-after-clause-none
returns-in_err-after-clause-none c =
    rw c.from_residual-in_err-after.ensures (λ meant after stands. c.in_err-after.ensures.none after
    (front_constant _ _ _ _ c.in_ok-mark_at.ensures.found c.split_inside.ensures.exact meant after stands).1)

pub returns-then-is_empty-clause-none : goal.returns-then-is_empty-clause-none
returns-then-is_empty-clause-none c =
    no_empty _ _ _ _ c.in_ok-mark_at.ensures.found c.split_inside.ensures.exact (empty_is _ c.if-is_empty.ensures)

pub returns-in-Ok-clause-found : goal.returns-in-Ok-clause-found
returns-in-Ok-clause-found c =
    constant_stands _ _ _ _ c.in_ok-mark_at.ensures.found c.split_inside.ensures.exact _ _ c.in_ok-after.ensures.found (some_are _ c.if-is_empty.ensures)
    c.in-Ok.ensures.cases.0 c.in-Ok.ensures.cases.1

pub returns-in-Ok-clause-written : goal.returns-in-Ok-clause-written
returns-in-Ok-clause-written c =
    c.in-Ok.ensures.cases.0 ∙ inside_is _ _ _ c.split_inside.ensures.exact ∙ ap (λ bytes. doubled (halved bytes)) (sym c.in-Ok.ensures.cases.0)

pub returns-in-Err-clause-none : goal.returns-in-Err-clause-none
returns-in-Err-clause-none c =
    λ meant after stands. c.in-Err.ensures.cases.0 (utf8_inside _ _ _ _ c.in_ok-mark_at.ensures.found c.split_inside.ensures.exact meant after stands)
