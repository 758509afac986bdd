use Rattle.std.proofs.Common.{◌<◌, ℕ, get_or, subst, sym}
use Rattle.std.proofs.lemmas.List.Elements.{Contains-get_or}
use Rattle.priority_graph.specs.Priority.{Conflict}
use Rattle.priority_graph.proofs.DirectLemmas.{conflict_of}
use Rattle.explainer.proofs.GrowthLemmas.{drops_none, drops_more, drops_rivals, wider}
use Rattle.explainer.proofs.growth.Growing.drop_rivals.Goals as goal

pub loop-rival-init : goal.loop-rival-init
loop-rival-init c = record { settled = c.requires.settled; exact = drops_none c.args.better.now c.args.present.now c.args.self.now }

pub drop_rival-requires : goal.drop_rival-requires
drop_rival-requires c =
    let k = c.loop-rival.rival-index in
    let rival = get_or c.of-rival-items.result.now k 0 in
    let conflicting : Conflict c.args.better.now c.args.kept rival =
    conflict_of c.args.better.now c.args.conflicts.now c.args.kept rival c.requires.over
    ((c.of-rival-items.ensures.exact rival).0 (Contains-get_or c.of-rival-items.result.now k 0 c.loop-rival-test.true)) in
    record {
      ascending = c.requires.ascending;
      known = subst (λ (n : ℕ). rival < n) (sym c.requires.over.facts) (c.of-rival-items.ensures.known k 0 c.loop-rival-test.true);
      kept = wider c.args.self.now.kept c.loop-rival.self.kept c.loop-rival.invariant.exact.more c.loop-rival.invariant.exact.grown c.args.kept c.requires.kept;
      conflicting = conflicting;
      blocked = c.requires.blocked rival conflicting;
      settled = c.loop-rival.invariant.settled;
    }

pub loop-rival-preserved : goal.loop-rival-preserved
loop-rival-preserved c = record {
  settled = c.in_ok-drop_rival.ensures.settled;
  exact = drops_more c.args.better.now c.args.present.now c.of-rival-items.result.now c.loop-rival.rival-index _ _ _ c.loop-rival-test.true
      c.loop-rival.invariant.exact c.in_ok-drop_rival.ensures.exact;
}

pub returns-clause-exact : goal.returns-clause-exact
returns-clause-exact c = drops_rivals c.args.better.now c.args.conflicts.now c.args.present.now c.of-rival-items.result.now c.args.kept
    c.loop-rival.rival-index _ _ c.requires.over c.of-rival-items.ensures.exact c.loop-rival-test.false c.loop-rival.invariant.exact
