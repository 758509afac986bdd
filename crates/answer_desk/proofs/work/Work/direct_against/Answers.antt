use Rattle.std.proofs.Common.{◌≡◌, ℕ, [], ◌∷◌, Option, subst, Contains, get_or}
use Rattle.std.specs.Prelude.{IfSome}
use Rattle.std.proofs.lemmas.List.Elements.{Contains-get_or}
use Rattle.explainer.specs.declared.cores.Core.{Core}
use Rattle.priority_graph.specs.Cores.{IsCore, IsDirect, ConflictsWith}
use Rattle.answer_desk.proofs.RivalLemmas.{free_rival}
use Rattle.answer_evidence.proofs.SetLemmas.{each_at}
use Rattle.answer_desk.proofs.work.Work.direct_against.Goals as goal

pub direct_of-requires-clause-free : goal.direct_of-requires-clause-free
direct_of-requires-clause-free c =
    let rivals = c.of-rival-items.result.now in
    let k = c.loop-rival.rival-index in
    free_rival c.args.self.now.better.now c.args.self.now.conflicts.now c.args.fact (get_or rivals k 0) c.linear-order.ensures.kept c.requires.over
    ((c.of-rival-items.ensures.exact (get_or rivals k 0)).0 (Contains-get_or rivals k 0 c.loop-rival-test.true))

pub returns-in-Some-clause-found : goal.returns-in-Some-clause-found
returns-in-Some-clause-found c =
    let rivals = c.of-rival-items.result.now in
    let k = c.loop-rival.rival-index in
    let p = c.args.self.now.better.now in
    let found = subst (λ (o : Option Core). IfSome o (λ core. (core.kept ≡ get_or rivals k 0 ∷ []) × IsDirect p core.kept core.dropped)) c.in-Some.is
    c.in_ok-core.ensures.found in
    record {
      rival = (get_or rivals k 0, (c.of-rival-items.ensures.exact (get_or rivals k 0)).0 (Contains-get_or rivals k 0 c.loop-rival-test.true), found.0);
      direct = found.1;
    }

pub returns-clause-none : goal.returns-clause-none
returns-clause-none c is j conflict =
    let rivals = c.of-rival-items.result.now in
    let p = c.args.self.now.better.now in
    each_at (λ (x : ℕ). ¬ IsCore p (Contains (x ∷ [])) (ConflictsWith p (x ∷ []))) rivals 0 c.loop-rival.rival-index c.loop-rival-test.false
    c.loop-rival.invariant j
    ((c.of-rival-items.ensures.exact j).1 conflict)
