use Rattle.std.proofs.Common.{List}
use Rattle.cq_terms.specs.declared.query.QAtom.TheVariants as atom
use Rattle.query_matching.specs.Extensions.{HasEach}
use Rattle.plain_match.specs.declared.places.KeyedFact.{KeyedFact}
use Rattle.plain_match.specs.Places.{HasNumber}
use Rattle.plain_match.proofs.CandidateLemmas.{by_member, by_from, by_to, of_either}
use Rattle.plain_match.proofs.candidates.candidates.Goals as goal

pub returns-in-Concept-clause-complete : goal.returns-in-Concept-clause-complete
returns-in-Concept-clause-complete c =
    let a = c.args in
    let s = c.in-Concept in
    let all : HasEach a.facts.now a.bindings.now a.atom (HasNumber c.at.result.now) =
    rw s.is (by_member a.facts.now a.bindings.now c.at.result.now s.pred c.known.result s.at c.known.ensures.found c.at.ensures.all) in
    all

pub returns-in-Link-clause-complete : goal.returns-in-Link-clause-complete
returns-in-Link-clause-complete c =
    let a = c.args in
    let s = c.in-Link in
    let left = c.at-in-Link in
    let right = c.at-in-Link-2 in
    let all : HasEach a.facts.now a.bindings.now a.atom (HasNumber c.shorter.result.now) = rw s.is
    (of_either (λ (list : List KeyedFact). HasEach a.facts.now a.bindings.now (atom.Link s.pred s.from s.to) (HasNumber list)) c.shorter.result.now
    left.result.now right.result.now c.shorter.ensures.one
    (by_from a.facts.now a.bindings.now left.result.now s.pred c.known-in-Link.result s.from s.to c.known-in-Link.ensures.found left.ensures.all)
    (by_to a.facts.now a.bindings.now right.result.now s.pred c.known-in-Link-2.result s.from s.to c.known-in-Link-2.ensures.found right.ensures.all)) in
    all
