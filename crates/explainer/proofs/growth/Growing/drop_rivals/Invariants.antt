use Rattle.std.proofs.Common.{Contains, take}
use Rattle.explainer.specs.Growth.{AreSettled, Drops}
use Rattle.explainer.proofs.growth.Growing.drop_rivals.Given as goal

abbrev pub invariant-loop-rival : goal.invariant-loop-rival
invariant-loop-rival l = record {
  settled : AreSettled l.better l.self;
  exact : Drops l.better l.present (Contains (take l.rival-index l.rival-items)) l.initial.self l.self;
}
