use Rattle.std.proofs.Common.{Contains, take}
use Rattle.explainer.specs.Growth.{AreSettled, Drops}
use Rattle.explainer.proofs.growth.Growing.drop_each.Given as goal

abbrev pub invariant-loop-fact : goal.invariant-loop-fact
invariant-loop-fact l = record {
  settled : AreSettled l.better l.self;
  exact : Drops l.better l.present (Contains (take l.fact-index l.facts)) l.initial.self l.self;
}
