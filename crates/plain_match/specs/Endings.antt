-- The matches with a given image: the atoms that are left become facts of it, so that all its facts are met.
use Rattle.std.specs.Prelude.{ℕ, ◌<◌, List, [], length, All, Contains}
use Rattle.cq_terms.specs.declared.facts.Fact.{Fact}
use Rattle.cq_terms.specs.declared.query.QAtom.{QAtom}
use Rattle.cq_terms.specs.Lists.{IsAscending}
use Rattle.query_matching.specs.declared.bindings.Binding.{Binding}
use Rattle.query_matching.specs.declared.bindings.Walk.{Walk}
use Rattle.query_matching.specs.Bindings.{AreConsistent}
use Rattle.query_matching.specs.Extensions.{Extends, ExtendsBy}

-- no variable
abbrev pub NoVariable : ℕ → Type 0
NoVariable l = ⊥

-- the atoms that are left may become facts of the image, so that these and those of before are all its facts
abbrev pub HasEnding : List Fact → List ℕ → List QAtom → List Binding → List ℕ → Type 0
HasEnding facts image rest bindings path = Extends facts [] rest bindings path (record { tuple = []; image = image })

-- the next atom may become the fact of the number, and so on
abbrev pub HasEndingBy : List Fact → List ℕ → QAtom → List QAtom → ℕ → List Binding → List ℕ → Type 0
HasEndingBy facts image a more n bindings path = ExtendsBy facts [] a more n bindings path (record { tuple = []; image = image })

-- the search within an image may go on: the image is ascending numbers of facts, and those so far are among them
pub record CanEnd (facts : List Fact) (image : List ℕ) (walk : Walk) : Type 0 where
  pub ascending : IsAscending image
  pub named : All (λ n. n < length facts) image
  pub consistent : AreConsistent walk.bindings.items
  pub inside : All (Contains image) walk.path.items
