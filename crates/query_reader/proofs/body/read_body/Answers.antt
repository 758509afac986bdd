-- Each atom is put, and goes on with the body at a comma.
use Rattle.std.proofs.Common.{sym, subst}
use Rattle.query_reader.specs.declared.place.Place.TheVariants as at
use Rattle.query_reader.proofs.BodyLemmas.{IsBodyPart, body_none, body_atom, body_more, body_all, put_grown, both_shorter}
use Rattle.query_reader.proofs.FaultLemmas.{passed, fault_here}
use Rattle.query_reader.proofs.body.read_body.Goals as goal

pub atoms-init : goal.atoms-init
atoms-init c = subst (IsBodyPart _ _ _ _) (sym c.new-atoms.ensures.items) (body_none _ _)

pub returns-in_err-put_atom-clause-grown : goal.returns-in_err-put_atom-clause-grown
returns-in_err-put_atom-clause-grown c = put_grown _ _ _ _ _ _ _ _ c.atoms.invariant c.in_ok-atom.ensures.found c.in_err-put_atom.ensures.grown

pub returns-in_err-push-clause-grown : goal.returns-in_err-push-clause-grown
returns-in_err-push-clause-grown c = put_grown _ _ _ _ _ _ _ _ c.atoms.invariant c.in_ok-atom.ensures.found c.in_ok-put_atom.ensures.grown

pub returns-in_err-next-clause-grown : goal.returns-in_err-next-clause-grown
returns-in_err-next-clause-grown c = put_grown _ _ _ _ _ _ _ _ c.atoms.invariant c.in_ok-atom.ensures.found c.in_ok-put_atom.ensures.grown

pub returns-in_default-clause-grown : goal.returns-in_default-clause-grown
returns-in_default-clause-grown c = put_grown _ _ _ _ _ _ _ _ c.atoms.invariant c.in_ok-atom.ensures.found c.in_ok-put_atom.ensures.grown

pub returns-in_err-next-clause-halt : goal.returns-in_err-next-clause-halt
returns-in_err-next-clause-halt c =
    let part = body_atom _ _ _ _ _ _ _ _ _ _ c.atoms.invariant c.in_ok-atom.ensures.found c.in_ok-put_atom.ensures.names c.in_ok-put_atom.ensures.exact
    c.in_ok-put_atom.ensures.kept c.in_ok-put_atom.ensures.grown c.in_ok-push.ensures.items in
    passed _ c.from_residual-in_err-next.result _ c.from_residual-in_err-next.ensures.1
    (part.faults _ (fault_here at.BehindAtom _ _ c.in_err-next.ensures.fault))

pub returns-in_default-clause-found : goal.returns-in_default-clause-found
returns-in_default-clause-found c =
    let part = body_atom _ _ _ _ _ _ _ _ _ _ c.atoms.invariant c.in_ok-atom.ensures.found c.in_ok-put_atom.ensures.names c.in_ok-put_atom.ensures.exact
    c.in_ok-put_atom.ensures.kept c.in_ok-put_atom.ensures.grown c.in_ok-push.ensures.items in
    body_all _ _ _ _ _ part (rw c.in_default.is at c.in_ok-next.ensures.found)

pub atoms-smaller : goal.atoms-smaller
atoms-smaller c = both_shorter _ _ _ _ c.in_ok-atom.ensures.found (rw c.in-Some.is at c.in_ok-next.ensures.found)

pub atoms-preserved : goal.atoms-preserved
atoms-preserved c =
    let part = body_atom _ _ _ _ _ _ _ _ _ _ c.atoms.invariant c.in_ok-atom.ensures.found c.in_ok-put_atom.ensures.names c.in_ok-put_atom.ensures.exact
    c.in_ok-put_atom.ensures.kept c.in_ok-put_atom.ensures.grown c.in_ok-push.ensures.items in
    body_more _ _ _ _ _ _ part (rw c.in-Some.is at c.in_ok-next.ensures.found)
