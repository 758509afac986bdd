use Rattle.std.proofs.Common.{◌<◌, ℕ, List, length, All, Contains}
use Rattle.cq_terms.specs.declared.facts.Kind.TheVariants as kind
use Rattle.cq_terms.specs.declared.query.QAtom.TheVariants as atom
use Rattle.fact_index.specs.Numbers.{HasPred, HasFirst, HasSecond}
use Rattle.query_matching.specs.Extensions.{HasEach}
use Rattle.join_eval.proofs.CandidateLemmas.{within, by_concept, by_member, by_role, by_from, by_to, of_either}
use Rattle.join_eval.proofs.candidates.candidates.Goals as goal

pub returns-in-Some-clause-complete : goal.returns-in-Some-clause-complete
returns-in-Some-clause-complete c =
    let s = c.in-Concept in
    let all : HasEach c.args.index.now c.args.bindings.now c.args.atom (Contains c.with_pred_first.result.now) =
    rw s.is (by_member c.args.index.now c.args.bindings.now c.with_pred_first.result.now s.pred s.at c.in-Some.ind c.in-Some.ensures.found
    c.with_pred_first.ensures.lent) in
    all

pub returns-in-Some-clause-named : goal.returns-in-Some-clause-named
returns-in-Some-clause-named c = within (HasFirst kind.Concept c.in-Concept.pred c.in-Some.ind) c.args.index.now c.with_pred_first.result.now
    c.with_pred_first.ensures.lent

pub returns-in-None-clause-complete : goal.returns-in-None-clause-complete
returns-in-None-clause-complete c =
    let s = c.in-Concept in
    let all : HasEach c.args.index.now c.args.bindings.now c.args.atom (Contains c.with_pred.result.now) =
    rw s.is (by_concept c.args.index.now c.args.bindings.now c.with_pred.result.now s.pred s.at c.with_pred.ensures.lent) in
    all

pub returns-in-None-clause-named : goal.returns-in-None-clause-named
returns-in-None-clause-named c = within (HasPred kind.Concept c.in-Concept.pred) c.args.index.now c.with_pred.result.now c.with_pred.ensures.lent

pub returns-in-Some-Some-clause-complete : goal.returns-in-Some-Some-clause-complete
returns-in-Some-Some-clause-complete c =
    let s = c.in-Link in
    let left = c.with_pred_first-in-Some-Some in
    let right = c.with_pred_second in
    let all : HasEach c.args.index.now c.args.bindings.now c.args.atom (Contains c.shorter.result.now) = rw s.is
    (of_either (λ (numbers : List ℕ). HasEach c.args.index.now c.args.bindings.now (atom.Link s.pred s.from s.to) (Contains numbers)) c.shorter.result.now
    left.result.now right.result.now c.shorter.ensures.one
    (by_from c.args.index.now c.args.bindings.now left.result.now s.pred s.from s.to c.in-Some-Some.first c.in-Some-Some.ensures.found left.ensures.lent)
    (by_to c.args.index.now c.args.bindings.now right.result.now s.pred s.from s.to c.in-Some-Some.second c.in-Some-Some.ensures'.found right.ensures.lent)) in
    all

pub returns-in-Some-Some-clause-named : goal.returns-in-Some-Some-clause-named
returns-in-Some-Some-clause-named c =
    let left = c.with_pred_first-in-Some-Some in
    let right = c.with_pred_second in
    of_either (All (λ n. n < length c.args.index.now)) c.shorter.result.now left.result.now right.result.now c.shorter.ensures.one
    (within (HasFirst kind.Link c.in-Link.pred c.in-Some-Some.first) c.args.index.now left.result.now left.ensures.lent)
    (within (HasSecond c.in-Link.pred c.in-Some-Some.second) c.args.index.now right.result.now right.ensures.lent)

pub returns-in-Some-None-clause-complete : goal.returns-in-Some-None-clause-complete
returns-in-Some-None-clause-complete c =
    let s = c.in-Link in
    let list = c.with_pred_first-in-Some-None in
    let all : HasEach c.args.index.now c.args.bindings.now c.args.atom (Contains list.result.now) =
    rw s.is (by_from c.args.index.now c.args.bindings.now list.result.now s.pred s.from s.to c.in-Some-None.first c.in-Some-None.ensures.found
    list.ensures.lent) in
    all

pub returns-in-Some-None-clause-named : goal.returns-in-Some-None-clause-named
returns-in-Some-None-clause-named c = within (HasFirst kind.Link c.in-Link.pred c.in-Some-None.first) c.args.index.now
    c.with_pred_first-in-Some-None.result.now c.with_pred_first-in-Some-None.ensures.lent

pub returns-in-None-Some-clause-complete : goal.returns-in-None-Some-clause-complete
returns-in-None-Some-clause-complete c =
    let s = c.in-Link in
    let list = c.with_pred_second-in-None-Some in
    let all : HasEach c.args.index.now c.args.bindings.now c.args.atom (Contains list.result.now) =
    rw s.is (by_to c.args.index.now c.args.bindings.now list.result.now s.pred s.from s.to c.in-None-Some.second c.in-None-Some.ensures.found
    list.ensures.lent) in
    all

pub returns-in-None-Some-clause-named : goal.returns-in-None-Some-clause-named
returns-in-None-Some-clause-named c = within (HasSecond c.in-Link.pred c.in-None-Some.second) c.args.index.now c.with_pred_second-in-None-Some.result.now
    c.with_pred_second-in-None-Some.ensures.lent

pub returns-in-None-None-clause-complete : goal.returns-in-None-None-clause-complete
returns-in-None-None-clause-complete c =
    let s = c.in-Link in
    let list = c.with_pred-in-None-None in
    let all : HasEach c.args.index.now c.args.bindings.now c.args.atom (Contains list.result.now) =
    rw s.is (by_role c.args.index.now c.args.bindings.now list.result.now s.pred s.from s.to list.ensures.lent) in
    all

pub returns-in-None-None-clause-named : goal.returns-in-None-None-clause-named
returns-in-None-None-clause-named c = within (HasPred kind.Link c.in-Link.pred) c.args.index.now c.with_pred-in-None-None.result.now
    c.with_pred-in-None-None.ensures.lent
