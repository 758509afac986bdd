use Rattle.std.proofs.Common.{rules, leb, sym, subst, List, ◌∙◌}
use Rattle.std.specs.List.Sorted.{IsNonDecreasingBy}
use Rattle.std.proofs.lemmas.List.Sorted.{IsPartitionPoint-from_clause, IsPartitionedBy-leb}
use Rattle.plain_match.specs.declared.places.KeyedFact.{KeyedFact}
use Rattle.plain_match.specs.Places.{IsCutAbove}
use Rattle.plain_match.proofs.KeyedFactLemmas.{cut_above}
use Rattle.plain_match.proofs.places.SortedFacts.not_above.Goals as goal

pub returns-clause-exact : goal.returns-clause-exact
returns-clause-exact c =
    let list = c.deref.result.now in
    let ordered : IsNonDecreasingBy (λ (e : KeyedFact). e.key) list =
    subst (λ (xs : List KeyedFact). IsNonDecreasingBy (λ (e : KeyedFact). e.key) xs) (sym c.deref.ensures.value) c.self.invariant in
    let point = IsPartitionPoint-from_clause (λ (e : KeyedFact). leb e.key c.args.key) list c.partition_point.result c.partition_point.ensures.partitioned
    (IsPartitionedBy-leb (λ (e : KeyedFact). e.key) list c.args.key ordered) (λ a r q k. search rules) in
    subst (λ (xs : List KeyedFact). IsCutAbove xs c.args.key c.partition_point.result) (c.deref.ensures.value ∙ c.self.view_is)
    (cut_above list c.args.key c.partition_point.result point)
