use Rattle.std.proofs.Common.{◌≡◌, ◌+◌, ◌∷◌, ◌++◌, [], ◌∙◌, List, length, sym, ap, subst, arith}
use Rattle.std.proofs.lemmas.Option.{slice_get-get_or}
use Rattle.plain_match.specs.declared.places.KeyedFact.{KeyedFact}
use Rattle.plain_match.proofs.KeyedFactLemmas.{AreKeyedFactsUpTo, keyed_all, keyed_skip, keyed_more}
use Rattle.plain_match.proofs.places.keyed_facts.Goals.{in-Some+in_ok-push, in_default-place}
use Rattle.plain_match.proofs.places.keyed_facts.Goals as goal

pub loop-index-preserved : goal.loop-index-preserved
loop-index-preserved c =
    let index = c.loop-index.index in
    let at = slice_get-get_or c.args.facts.now index _ c.loop-index-test.true in
    elim c.match-place.branch [
      | in-Some+in_ok-push w ↦
          let more = keyed_more c.args.side c.args.facts.now index c.loop-index.list.items _ c.place.result c.loop-index.invariant at c.place.ensures.found
          w.in-Some.key w.in-Some.is in
          let number : index ≡ c.in-Ok.number = sym c.in-Ok.ensures.1 in
          let pushed = subst (λ n. AreKeyedFactsUpTo c.args.side c.args.facts.now (index + 1)
          (c.loop-index.list.items ++ (record { key = w.in-Some.key; number = n }) ∷ [])) number more in
          subst (λ (xs : List KeyedFact). AreKeyedFactsUpTo c.args.side c.args.facts.now (index + 1) xs)
          (sym (ap (λ v. v.items) w.list-is ∙ w.in_ok-push.ensures.items)) pushed
      | in_default-place w ↦
          subst (λ (xs : List KeyedFact). AreKeyedFactsUpTo c.args.side c.args.facts.now (index + 1) xs) (ap (λ v. v.items) (sym w.list-is))
          (keyed_skip c.args.side c.args.facts.now index c.loop-index.list.items _ c.place.result c.loop-index.invariant at c.place.ensures.found
          w.in_default-place.is)
    ]

pub returns : goal.returns
returns c =
    let all : c.loop-index.index ≡ length c.args.facts.now = omega (arith, c.loop-index.auto.index-end, c.loop-index-test.false) in
    record {
      exact = keyed_all c.args.side c.args.facts.now c.loop-index.list.items
          (subst (λ n. AreKeyedFactsUpTo c.args.side c.args.facts.now n c.loop-index.list.items) all c.loop-index.invariant);
    }
