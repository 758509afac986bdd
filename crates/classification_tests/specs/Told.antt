-- What a preparation and a report ask of an input.
use Rattle.std.specs.Prelude.{◌<◌, ◌^◌, length, All}
use Rattle.cq_terms.specs.Knowledge.{Knowledge}
use Rattle.cq_terms.specs.Query.{Query}
use Rattle.cq_terms.specs.declared.names.Vocab.{Vocab}
use Rattle.preparation.specs.Prepared.{IsFactBelow, IsTermBelow}

-- each list has fewer than 2^31 items, and the individuals of the facts and of the head have names
pub record IsNamed (kb : Knowledge) (q : Query) (vocab : Vocab) : Type 0 where
  pub axioms : length kb.axioms < 2 ^ 31
  pub facts : length kb.facts < 2 ^ 31
  pub pairs : length kb.pairs < 2 ^ 31
  pub atoms : length q.body < 2 ^ 31
  pub facts_named : All (IsFactBelow (length vocab.inds)) kb.facts
  pub head_named : All (IsTermBelow (length vocab.inds)) q.head
