use Rattle.std.proofs.Common.{◌≡◌, [], ap, ◌∙◌, arith}
use Rattle.std.proofs.lemmas.List.{take_all}
use Rattle.std.proofs.lemmas.Result.{IfOk-weaker}
use Rattle.cq_terms.specs.Conflicts.{ConflictGraph, couples, own_facts}
use Rattle.priority_graph.proofs.ClashLemmas.{clashes_of, are_clashes, no_own, same_couples}
use Rattle.repair_tests.proofs.graphs.of_ordered.Goals as goal

pub new-requires : goal.new-requires
new-requires c =
    let whole : c.loop-lower.clashes.items ≡ clashes_of c.args.listed.now =
    c.loop-lower.invariant ∙ ap clashes_of (take_all c.loop-lower.lower-index c.args.listed.now (omega arith)) in
    record { kept = rw whole (are_clashes c.args.facts c.args.listed.now c.requires.few_facts c.requires.few c.requires.upward c.requires.ascending) }

pub returns-clause-own : goal.returns-clause-own
returns-clause-own c =
    let whole : c.loop-lower.clashes.items ≡ clashes_of c.args.listed.now =
    c.loop-lower.invariant ∙ ap clashes_of (take_all c.loop-lower.lower-index c.args.listed.now (omega arith)) in
    IfOk-weaker c.new.result (λ (g : ConflictGraph). g ≡ record { facts = c.args.facts; clashes = c.loop-lower.clashes.items })
    (λ (g : ConflictGraph). own_facts g.clashes ≡ [])
    (λ g e. ap (λ (g : ConflictGraph). own_facts g.clashes) e ∙ ap own_facts whole ∙ no_own c.args.listed.now) c.new.ensures.exact

pub returns-clause-couples : goal.returns-clause-couples
returns-clause-couples c =
    let whole : c.loop-lower.clashes.items ≡ clashes_of c.args.listed.now =
    c.loop-lower.invariant ∙ ap clashes_of (take_all c.loop-lower.lower-index c.args.listed.now (omega arith)) in
    IfOk-weaker c.new.result (λ (g : ConflictGraph). g ≡ record { facts = c.args.facts; clashes = c.loop-lower.clashes.items })
    (λ (g : ConflictGraph). couples g.clashes ≡ c.args.listed.now)
    (λ g e. ap (λ (g : ConflictGraph). couples g.clashes) e ∙ ap couples whole ∙ same_couples c.args.listed.now) c.new.ensures.exact
