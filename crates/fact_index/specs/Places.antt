-- Places at which facts stand: what the index has a list for.
use Rattle.std.specs.Prelude.{List, [], ◌∷◌}
use Rattle.cq_terms.specs.declared.facts.Kind.TheVariants as kind
use Rattle.cq_terms.specs.declared.facts.Fact.{Fact}
use Rattle.cq_terms.specs.declared.facts.Fact.TheVariants as fact
use Rattle.fact_index.specs.declared.place.Place.{Place}
use Rattle.fact_index.specs.declared.place.Place.TheVariants as place
use Rattle.fact_index.specs.Numbers.{HasPred, HasFirst, HasSecond}

-- the fact stands at the place
abbrev pub StandsAt : Place → Fact → Type 0
StandsAt (place.Concept p) f = HasPred kind.Concept p f
StandsAt (place.Role p) f = HasPred kind.Link p f
StandsAt (place.Member p i) f = HasFirst kind.Concept p i f
StandsAt (place.From p i) f = HasFirst kind.Link p i f
StandsAt (place.To p i) f = HasSecond p i f

-- all places of a fact
abbrev pub places_of : Fact → List Place
places_of (fact.Concept p c) = place.Concept p ∷ place.Member p c ∷ []
places_of (fact.Link p c d) = place.Role p ∷ place.From p c ∷ place.To p d ∷ []
