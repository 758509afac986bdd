use Rattle.std.proofs.Common.{◌↔◌, ap, sym, subst, List, ℕ, All, Contains, length, arith, refl, true, IsTrue}
use Rattle.std.proofs.lemmas.List.Elements.{Contains-get_or}
use Rattle.cq_terms.specs.declared.query.QAtom.{QAtom}
use Rattle.cq_terms.specs.Query.{StandsIn}
use Rattle.query_matching.specs.declared.bindings.Walk.{Walk}
use Rattle.query_matching.specs.Bindings.{AtomIs, Binds}
use Rattle.plain_match.specs.Endings.{HasEnding, CanEnd}
use Rattle.plain_match.proofs.EndingLemmas.{none_left, end_from, end_to, can_on, can_same, none_more, none_at_all}
use Rattle.plain_match.proofs.exactly.+ending.Goals as goal

pub has_ending-returns-in_default-clause-exact : goal.has_ending-returns-in_default-clause-exact
has_ending-returns-in_default-clause-exact t c =
    let a = c.args in
    let met = subst (λ (xs : List ℕ). IsTrue c.are_all_met.result ↔ All (Contains xs) a.image.now) c.deref.ensures.value c.are_all_met.ensures.exact in
    subst (λ (xs : List QAtom). IsTrue c.are_all_met.result ↔ HasEnding a.facts.now a.image.now xs a.walk.now.bindings.items a.walk.now.path.items)
    (sym (none_left a.rest.now c.in_default.ensures.cases))
    ((λ h. end_from a.facts.now a.image.now a.walk.now c.requires.can (met.0 h)), (λ h. met.1 (end_to a.facts.now a.image.now a.walk.now h)))

pub has_ending-has_ending_by-requires : goal.has_ending-has_ending_by-requires
has_ending-has_ending_by-requires t c =
    let a = c.args in
    let can = can_same a.facts.now a.image.now a.walk.now c.loop-number.walk c.loop-number.invariant.same c.requires.can in
    (omega (arith, c.decreases, ap length c.in-Some.ensures.cases.0), (can, Contains-get_or a.image.now c.loop-number.number-index 0 c.loop-number-test.true))

pub has_ending-loop-number-preserved : goal.has_ending-loop-number-preserved
has_ending-loop-number-preserved t c =
    let a = c.args in
    none_more a.facts.now a.image.now c.in-Some.atom.now c.in-Some.more.now a.rest.now a.walk.now c.in-Some.ensures.cases.0 c.loop-number.number-index
    c.loop-number.walk c.loop-number.invariant c.has_ending_by.new.walk c.in_ok-has_ending_by.ensures.same
    (λ h. let is = c.in_ok-has_ending_by.ensures.exact.1 h in cc (is, c.if-branch.false))

pub has_ending-returns-clause-exact : goal.has_ending-returns-clause-exact
has_ending-returns-clause-exact t c =
    let a = c.args in (
      (λ h. cc h),
      (λ h. absurd (none_at_all a.facts.now a.image.now c.in-Some.atom.now c.in-Some.more.now a.rest.now a.walk.now c.in-Some.ensures.cases.0
          c.loop-number.number-index c.loop-number.walk c.loop-number.invariant c.loop-number-test.false h)),
    )

pub has_ending_by-has_ending-requires : goal.has_ending_by-has_ending-requires
has_ending_by-has_ending-requires t c =
    let a = c.args in
    let new : Walk = record { bindings = c.bind_atom.new.bindings; path = c.push.new.self } in
    let binds : Binds (λ v. AtomIs v a.atom c.fact.result) (λ l. StandsIn l a.atom) a.walk.now.bindings.items c.bind_atom.new.bindings.items true =
    rw c.if-not-branch.false at c.in_ok-bind_atom.ensures.exact in
    let can : CanEnd a.facts.now a.image.now new = can_on a.facts.now a.image.now a.walk.now new a.number c.requires.can c.requires.inside
    (binds.consistent refl) c.in_ok-push.ensures.items in
    (omega (arith, c.decreases), can)
