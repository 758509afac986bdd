use Rattle.std.proofs.Common.{◌<◌, List, Contains, length, sym, subst}
use Rattle.std.proofs.lemmas.Option.{slice_get_within}
use Rattle.cq_terms.specs.declared.query.QAtom.{QAtom}
use Rattle.cq_meaning.proofs.Ascending.{All-of}
use Rattle.cq_meaning.proofs.Members.{Contains-slice_get}
use Rattle.conflict_finder.proofs.Candidates.{atom_there, never_unlike}
use Rattle.conflict_finder.proofs.Turns.{item_at}
use Rattle.conflict_finder.proofs.images.candidates.Goals as goal

pub returns-then-not-same_predicate-clause-complete : goal.returns-then-not-same_predicate-clause-complete
returns-then-not-same_predicate-clause-complete c = λ q n e l h. absurd (
    never_unlike c.args.index.now q n h c.args.body.now e c.in-Some.first.now _ c.if-not-same_predicate.ensures.exact
    (Contains-slice_get c.args.body.now 0 c.in-Some.first.now (sym c.in-Some.ensures.value))
    (Contains-slice_get c.args.body.now c.loop-atom.atom-index _ (item_at c.args.body.now c.loop-atom.atom-index _ c.loop-atom-test.true)))

pub returns-clause-complete : goal.returns-clause-complete
returns-clause-complete c = λ q n e l h.
    let first = Contains-slice_get c.args.body.now 0 c.in-Some.first.now (sym c.in-Some.ensures.value) in
    (c.with_predicate.ensures.exact n).1 (atom_there c.args.index.now q n h c.in-Some.first.now
    (subst (λ (atoms : List QAtom). Contains atoms c.in-Some.first.now) (sym e) first))

pub returns-clause-named : goal.returns-clause-named
returns-clause-named c =
    All-of (λ n. n < length c.args.index.now) c.with_predicate.result.now
    (λ n there. let w = (c.with_predicate.ensures.exact n).0 there in slice_get_within c.args.index.now n w.0 w.2)
