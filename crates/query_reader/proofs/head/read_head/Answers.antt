-- A variable goes on with the head, and the arrow ends it.
use Rattle.std.proofs.Common.{◌≡◌, length, arith, sym, subst}
use Rattle.query_reader.specs.Faults.{head_place}
use Rattle.query_reader.specs.Steps.{AddsRepeat}
use Rattle.query_reader.specs.Tokens.{begins, is_blank}
use Rattle.query_reader.proofs.HeadLemmas.{IsHeadPart, head_more, head_all}
use Rattle.query_reader.proofs.TextLemmas.{stands_shorter}
use Rattle.query_reader.proofs.head.read_head.Goals as goal

pub returns-in_default-clause-found : goal.returns-in_default-clause-found
returns-in_default-clause-found c =
    head_all _ _ _ _ _ _ c.variables.invariant (rw c.in_default.is at c.in_ok-letters.ensures.found)

pub variables-smaller : goal.variables-smaller
variables-smaller c =
    let step = rw c.in-Some.is at c.in_ok-letters.ensures.found in
    stands_shorter _ _ _ step.1

pub variables-preserved : goal.variables-preserved
variables-preserved c =
    let step = rw c.in-Some.is at c.in_ok-letters.ensures.found in
    let count : c.len.result ≡ length c.variables.terms.items = omega (arith, c.len.ensures, c.variables.terms.ok.0) in
    subst
    (λ place. IsHeadPart c.args.text.now place c.in_ok-letters.after.now c.put.new.self c.push.new.self.items c.repeat_with-repeated.result)
    (sym c.behind_variable-place.ensures.exact)
    (subst
    (λ terms. IsHeadPart c.args.text.now (head_place (begins is_blank c.in_ok-letters.after.now)) c.in_ok-letters.after.now c.put.new.self terms
    c.repeat_with-repeated.result)
    (sym c.in_ok-push.ensures.items)
    (head_more _ _ _ _ _ _ _ _ _ _ _ c.variables.invariant step.0 step.1
    (subst (λ many. AddsRepeat c.variables.repeated c.variables.variables c.in-Some.letters.now many c.repeat_with-repeated.result) count
    c.repeat_with-repeated.ensures.exact) c.in_ok-put.ensures.exact c.in_ok-put.ensures.place))
