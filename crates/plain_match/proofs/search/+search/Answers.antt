use Rattle.std.proofs.Common.{ap, subst, List, length, arith, true}
use Rattle.cq_terms.specs.Query.{StandsIn}
use Rattle.query_matching.specs.declared.bindings.Binding.{Binding}
use Rattle.query_matching.specs.declared.bindings.Walk.{Walk}
use Rattle.query_matching.specs.Bindings.{AtomIs, Binds}
use Rattle.query_matching.specs.Extensions.{CanExtend, HasEach}
use Rattle.query_matching.proofs.SoFar.{so_far_none, so_far_can, so_far_more, so_far_all, can_go_on, goes_on_only, goes_on_all}
use Rattle.plain_match.specs.Places.{HasNumber}
use Rattle.plain_match.proofs.CandidateLemmas.{no_fact, number_at, at_place}
use Rattle.plain_match.proofs.search.+search.Goals as goal

pub extend-loop-fact-init : goal.extend-loop-fact-init
extend-loop-fact-init t c =
    let a = c.args in
    so_far_none a.question.now.facts.now a.question.now.head.now a.rest.now c.in-Some.atom.now c.in-Some.more.now
    (number_at c.candidates-fact-items.result.now) a.state.now.walk a.state.now.found.keys

pub extend-extend_by-requires : goal.extend-extend_by-requires
extend-extend_by-requires t c =
    let a = c.args in
    let i = c.loop-fact in
    let can = so_far_can a.question.now.facts.now a.question.now.head.now a.rest.now c.in-Some.atom.now c.in-Some.more.now
    (number_at c.candidates-fact-items.result.now) a.state.now.walk a.state.now.found.keys c.in-Some.ensures.cases.0 i.fact-index i.state.walk
    i.state.found.keys i.invariant c.requires.can in
    (omega (arith, c.decreases, ap length c.in-Some.ensures.cases.0), (c.candidates-fact-items.ensures.named i.fact-index no_fact c.loop-fact-test.true, can))

pub extend-loop-fact-preserved : goal.extend-loop-fact-preserved
extend-loop-fact-preserved t c =
    let a = c.args in
    let i = c.loop-fact in
    so_far_more a.question.now.facts.now a.question.now.head.now a.rest.now c.in-Some.atom.now c.in-Some.more.now
    (number_at c.candidates-fact-items.result.now) a.state.now.walk a.state.now.found.keys c.in-Some.ensures.cases.0 i.fact-index i.state.walk
    i.state.found.keys i.invariant c.extend_by.new.state.walk c.extend_by.new.state.found.keys c.in_ok-extend_by.ensures.only
    c.in_ok-extend_by.ensures.all c.in_ok-extend_by.ensures.same

pub extend-returns-clause-all : goal.extend-returns-clause-all
extend-returns-clause-all t c =
    let a = c.args in
    let i = c.loop-fact in
    let list = c.candidates-fact-items.result.now in
    let has : HasEach a.question.now.facts.now a.state.now.walk.bindings.items c.in-Some.atom.now (HasNumber list) =
    subst (λ (xs : List Binding). HasEach a.question.now.facts.now xs c.in-Some.atom.now (HasNumber list)) c.deref.ensures.value
    c.candidates-fact-items.ensures.complete in
    so_far_all a.question.now.facts.now a.question.now.head.now a.rest.now c.in-Some.atom.now c.in-Some.more.now (number_at list) a.state.now.walk
    a.state.now.found.keys c.in-Some.ensures.cases.0 i.fact-index i.state.walk i.state.found.keys i.invariant
    (λ v n f agrees at is. let there = at_place list n (has v n f agrees at is) in (there.0, omega (arith, there.1, c.loop-fact-test.false), there.2))

pub extend_by-extend-requires : goal.extend_by-extend-requires
extend_by-extend-requires t c =
    let a = c.args in
    let new : Walk = record { bindings = c.bind_atom.new.bindings; path = c.push.new.self } in
    let binds : Binds (λ v. AtomIs v a.atom c.fact.result) (λ l. StandsIn l a.atom) a.state.now.walk.bindings.items c.bind_atom.new.bindings.items true =
    rw c.if-not-branch.false at c.in_ok-bind_atom.ensures.exact in
    let can : CanExtend a.question.now.head.now a.more.now new =
    can_go_on a.question.now.head.now a.atom a.more.now c.fact.result a.state.now.walk new c.requires.can binds in
    (omega (arith, c.decreases), can)

pub extend_by-returns-clause-only : goal.extend_by-returns-clause-only
extend_by-returns-clause-only t c =
    let a = c.args in
    let new : Walk = record { bindings = c.bind_atom.new.bindings; path = c.push.new.self } in
    let binds : Binds (λ v. AtomIs v a.atom c.fact.result) (λ l. StandsIn l a.atom) a.state.now.walk.bindings.items c.bind_atom.new.bindings.items true =
    rw c.if-not-branch.false at c.in_ok-bind_atom.ensures.exact in
    goes_on_only a.question.now.facts.now a.question.now.head.now a.atom a.more.now a.number c.fact.result a.state.now.walk new a.state.now.found.keys
    c.extend.new.state.found.keys c.fact.ensures.exact binds c.in_ok-push.ensures.items c.in_ok-extend.ensures.only

pub extend_by-returns-clause-all : goal.extend_by-returns-clause-all
extend_by-returns-clause-all t c =
    let a = c.args in
    let new : Walk = record { bindings = c.bind_atom.new.bindings; path = c.push.new.self } in
    let binds : Binds (λ v. AtomIs v a.atom c.fact.result) (λ l. StandsIn l a.atom) a.state.now.walk.bindings.items c.bind_atom.new.bindings.items true =
    rw c.if-not-branch.false at c.in_ok-bind_atom.ensures.exact in
    goes_on_all a.question.now.facts.now a.question.now.head.now a.atom a.more.now a.number c.fact.result a.state.now.walk new c.extend.new.state.found.keys
    c.fact.ensures.exact binds c.in_ok-push.ensures.items c.in_ok-extend.ensures.all
