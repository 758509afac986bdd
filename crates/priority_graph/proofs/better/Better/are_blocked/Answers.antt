use Rattle.std.proofs.Common.{refl, Contains, All}
use Rattle.std.proofs.lemmas.List.{take_all}
use Rattle.std.proofs.lemmas.List.Elements.{All-more}
use Rattle.priority_graph.specs.Cores.{IsBlocked}
use Rattle.priority_graph.proofs.better.Better.are_blocked.Goals as goal

pub loop-fact-preserved : goal.loop-fact-preserved
loop-fact-preserved c = All-more (IsBlocked c.args.self.now (Contains c.args.kept.now)) c.args.facts.now c.loop-fact.fact-index 0 c.loop-fact-test.true
    c.loop-fact.invariant (c.if-not-is_blocked.ensures.exact.0 refl)

pub returns : goal.returns
returns c =
    let all : All (IsBlocked c.args.self.now (Contains c.args.kept.now)) c.args.facts.now =
    rw (take_all _ c.args.facts.now c.loop-fact-test.false) at c.loop-fact.invariant in
    record { exact = ((λ _. all), (λ _. refl)) }
