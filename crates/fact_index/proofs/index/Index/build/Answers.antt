use Rattle.std.proofs.Common.{◌≡◌, ◌<◌, ◌^◌, List, length, subst, arith}
use Rattle.cq_terms.specs.declared.flat_lists.KeyedNumber.{KeyedNumber}
use Rattle.cq_terms.specs.FlatLists.{AreGrouped}
use Rattle.fact_index.proofs.Told.{indexed}
use Rattle.fact_index.proofs.index.Index.build.Goals as goal

pub invariant_of-result : goal.invariant_of-result
invariant_of-result c =
    let gathered = c.in_ok-places.field-0 in
    let count : c.in-Ok.count ≡ length gathered.places.keys = omega (arith, c.in-Ok.ensures, c.len.ensures.len) in
    let few : c.in-Ok.count < 2 ^ 32 = omega arith in
    let entries : c.deref.result.now ≡ gathered.entries.items = c.deref.ensures.value in
    rw c.in_ok-facts.ensures.items
    (indexed gathered.places.keys gathered.entries.items c.args.facts.now c.in-Ok.count c.in_ok-numbers.numbers c.requires.distinct c.requires.few
    c.in_ok-places.ensures.whole c.in_ok-places.ensures.exact count few
    (subst (λ (es : List KeyedNumber). AreGrouped es c.in-Ok.count c.in_ok-numbers.numbers) entries c.in_ok-numbers.ensures.exact))
