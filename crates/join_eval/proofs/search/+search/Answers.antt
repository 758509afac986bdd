use Rattle.std.proofs.Common.{ap, subst, List, Contains, length, get_or, arith, true, ◌∙◌}
use Rattle.std.proofs.lemmas.List.{get_or_default}
use Rattle.cq_terms.specs.Query.{StandsIn}
use Rattle.query_matching.specs.declared.bindings.Binding.{Binding}
use Rattle.query_matching.specs.declared.bindings.Walk.{Walk}
use Rattle.query_matching.specs.Bindings.{AtomIs, Binds}
use Rattle.query_matching.specs.Extensions.{CanExtend, HasEach}
use Rattle.query_matching.proofs.SoFar.{so_far_none, so_far_can, so_far_only, so_far_more, so_far_all, can_go_on, goes_on_only, goes_on_all}
use Rattle.join_eval.proofs.search.+search.Goals as goal

pub extend-loop-number-init : goal.extend-loop-number-init
extend-loop-number-init t c =
    let a = c.args in
    record {
      so = so_far_none a.question.now.index.now a.question.now.head.now a.rest.now c.in-Some.atom.now c.in-Some.more.now
          (λ k. get_or c.candidates-number-items.result.now k 0) a.state.now.walk a.state.now.found.keys;
      few = c.requires.few;
    }

pub extend-extend_by-requires : goal.extend-extend_by-requires
extend-extend_by-requires t c =
    let a = c.args in
    let i = c.loop-number in
    let can = so_far_can a.question.now.index.now a.question.now.head.now a.rest.now c.in-Some.atom.now c.in-Some.more.now
    (λ k. get_or c.candidates-number-items.result.now k 0) a.state.now.walk a.state.now.found.keys c.in-Some.ensures.cases.0 i.number-index i.state.walk
    i.state.found.keys i.invariant.so c.requires.can in (
      omega (arith, c.decreases, ap length c.in-Some.ensures.cases.0),
      (c.candidates-number-items.ensures.named i.number-index 0 c.loop-number-test.true, (can, i.invariant.few)),
    )

pub extend-returns-in_err-extend_by-clause-only : goal.extend-returns-in_err-extend_by-clause-only
extend-returns-in_err-extend_by-clause-only t c =
    let a = c.args in
    let i = c.loop-number in
    so_far_only a.question.now.index.now a.question.now.head.now a.rest.now c.in-Some.atom.now c.in-Some.more.now
    (λ k. get_or c.candidates-number-items.result.now k 0) a.state.now.walk a.state.now.found.keys c.in-Some.ensures.cases.0 i.number-index i.state.walk
    i.state.found.keys i.invariant.so _ _ c.extend_by.ensures.only

pub extend-loop-number-preserved : goal.extend-loop-number-preserved
extend-loop-number-preserved t c =
    let a = c.args in
    let i = c.loop-number in
    record {
      so = so_far_more a.question.now.index.now a.question.now.head.now a.rest.now c.in-Some.atom.now c.in-Some.more.now
          (λ k. get_or c.candidates-number-items.result.now k 0) a.state.now.walk a.state.now.found.keys c.in-Some.ensures.cases.0 i.number-index i.state.walk
          i.state.found.keys i.invariant.so c.extend_by.new.state.walk c.extend_by.new.state.found.keys c.in_ok-extend_by.ensures.only
          c.in_ok-extend_by.ensures.all c.in_ok-extend_by.ensures.same;
      few = c.in_ok-extend_by.ensures.few;
    }

pub extend-returns-clause-only : goal.extend-returns-clause-only
extend-returns-clause-only t c = c.loop-number.invariant.so.only

pub extend-returns-clause-same : goal.extend-returns-clause-same
extend-returns-clause-same t c = c.loop-number.invariant.so.same

pub extend-returns-clause-all : goal.extend-returns-clause-all
extend-returns-clause-all t c =
    let a = c.args in
    let i = c.loop-number in
    let numbers = c.candidates-number-items.result.now in
    let has : HasEach a.question.now.index.now a.state.now.walk.bindings.items c.in-Some.atom.now (Contains numbers) =
    subst (λ (xs : List Binding). HasEach a.question.now.index.now xs c.in-Some.atom.now (Contains numbers)) c.deref.ensures.value
    c.candidates-number-items.ensures.complete in
    so_far_all a.question.now.index.now a.question.now.head.now a.rest.now c.in-Some.atom.now c.in-Some.more.now (λ k. get_or numbers k 0) a.state.now.walk
    a.state.now.found.keys c.in-Some.ensures.cases.0 i.number-index i.state.walk i.state.found.keys i.invariant.so
    (λ v n f agrees at is. let there = has v n f agrees at is in
    (there.0, omega (arith, there.1, c.loop-number-test.false), get_or_default numbers there.0 0 n there.1 ∙ there.2))

pub extend_by-extend-requires : goal.extend_by-extend-requires
extend_by-extend-requires t c =
    let a = c.args in
    let new : Walk = record { bindings = c.bind_atom.new.bindings; path = c.push.new.self } in
    let binds : Binds (λ v. AtomIs v a.atom c.fact.result) (λ l. StandsIn l a.atom) a.state.now.walk.bindings.items c.bind_atom.new.bindings.items true =
    rw c.if-not-branch.false at c.in_ok-bind_atom.ensures.exact in
    let can : CanExtend a.question.now.head.now a.more.now new =
    can_go_on a.question.now.head.now a.atom a.more.now c.fact.result a.state.now.walk new c.requires.can binds in
    (omega (arith, c.decreases), (can, c.requires.few))

pub extend_by-returns-in_err-extend-clause-only : goal.extend_by-returns-in_err-extend-clause-only
extend_by-returns-in_err-extend-clause-only t c =
    let a = c.args in
    let new : Walk = record { bindings = c.bind_atom.new.bindings; path = c.push.new.self } in
    let binds : Binds (λ v. AtomIs v a.atom c.fact.result) (λ l. StandsIn l a.atom) a.state.now.walk.bindings.items c.bind_atom.new.bindings.items true =
    rw c.if-not-branch.false at c.in_ok-bind_atom.ensures.exact in
    goes_on_only a.question.now.index.now a.question.now.head.now a.atom a.more.now a.number c.fact.result a.state.now.walk new a.state.now.found.keys
    c.extend.new.state.found.keys c.fact.ensures.exact binds c.in_ok-push.ensures.items c.extend.ensures.only

pub extend_by-returns-clause-only : goal.extend_by-returns-clause-only
extend_by-returns-clause-only t c =
    let a = c.args in
    let new : Walk = record { bindings = c.bind_atom.new.bindings; path = c.push.new.self } in
    let binds : Binds (λ v. AtomIs v a.atom c.fact.result) (λ l. StandsIn l a.atom) a.state.now.walk.bindings.items c.bind_atom.new.bindings.items true =
    rw c.if-not-branch.false at c.in_ok-bind_atom.ensures.exact in
    goes_on_only a.question.now.index.now a.question.now.head.now a.atom a.more.now a.number c.fact.result a.state.now.walk new a.state.now.found.keys
    c.extend.new.state.found.keys c.fact.ensures.exact binds c.in_ok-push.ensures.items c.extend.ensures.only

pub extend_by-returns-clause-all : goal.extend_by-returns-clause-all
extend_by-returns-clause-all t c =
    let a = c.args in
    let new : Walk = record { bindings = c.bind_atom.new.bindings; path = c.push.new.self } in
    let binds : Binds (λ v. AtomIs v a.atom c.fact.result) (λ l. StandsIn l a.atom) a.state.now.walk.bindings.items c.bind_atom.new.bindings.items true =
    rw c.if-not-branch.false at c.in_ok-bind_atom.ensures.exact in
    goes_on_all a.question.now.index.now a.question.now.head.now a.atom a.more.now a.number c.fact.result a.state.now.walk new c.extend.new.state.found.keys
    c.fact.ensures.exact binds c.in_ok-push.ensures.items c.in_ok-extend.ensures.all
