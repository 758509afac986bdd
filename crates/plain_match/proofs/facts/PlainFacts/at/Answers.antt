use Rattle.std.proofs.Common.{◌<◌, length, get_or, refl}
use Rattle.std.proofs.lemmas.List.Elements.{All-contains, Contains-get_or}
use Rattle.plain_match.specs.declared.places.KeyedFact.{KeyedFact}
use Rattle.plain_match.specs.Places.{key_of}
use Rattle.plain_match.proofs.facts.PlainFacts.at.Goals as goal

pub returns-clause-all : goal.returns-clause-all
returns-clause-all c = λ n f ind at stands admits.
    let keyed = c.list.ensures.exact in
    let there = c.under.ensures.all n ind (keyed.fits n f c.args.pred ind at stands) admits (keyed.all n f c.args.pred ind at stands) in
    (there.0, record { key = key_of c.args.pred ind; number = n }, there.1, there.2, refl)

pub returns-clause-named : goal.returns-clause-named
returns-clause-named c = λ k d lt.
    All-contains (λ (e : KeyedFact). e.number < length c.args.self.now) c.list.result.now (get_or c.under.result.now k d) c.list.ensures.exact.named
    (c.under.ensures.own (get_or c.under.result.now k d) (Contains-get_or c.under.result.now k d lt))
