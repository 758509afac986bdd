-- What the index lends for an atom whose known places are individuals.
use Rattle.std.proofs.Common.{◌≡◌, ℕ, ◌<◌, List, length, get_or, All, Contains, ◌⊎◌, inl, inr, ◌↔◌, sym, subst}
use Rattle.std.proofs.lemmas.Option.{slice_get_within}
use Rattle.std.proofs.lemmas.List.Elements.{Contains-get_or}
use Rattle.cq_terms.specs.declared.facts.Kind.TheVariants as kind
use Rattle.cq_terms.specs.declared.facts.Fact.{Fact}
use Rattle.cq_terms.specs.declared.facts.Fact.TheVariants as fact
use Rattle.cq_terms.specs.declared.query.Term.{Term}
use Rattle.cq_terms.specs.declared.query.QAtom.TheVariants as atom
use Rattle.fact_index.specs.Numbers.{HasPred, HasFirst, HasSecond, AreNumbers}
use Rattle.query_matching.specs.declared.bindings.Binding.{Binding}
use Rattle.query_matching.specs.Bindings.{Agrees, TermIs, AtomIs}
use Rattle.query_matching.specs.Extensions.{HasEach}

-- the individual that the term has to be
abbrev pub IsKnown : List Binding → Term → ℕ → Type 0
IsKnown bindings t c = (v : ℕ → ℕ) (d : ℕ) → Agrees bindings v → TermIs v t d ↔ (d ≡ c)

-- numbers of facts are numbers of facts
pub within : (P : Fact → Type 0) (facts : List Fact) (numbers : List ℕ) → AreNumbers P facts numbers → All (λ n. n < length facts) numbers
within P facts numbers are k d l =
    let n = get_or numbers k d in
    let f = (are.exact n).0 (Contains-get_or numbers k d l) in
    slice_get_within facts n f.0 f.2

module _ (facts : List Fact) (bindings : List Binding) (numbers : List ℕ) (p : ℕ) where
  pub by_concept : (t : Term) → AreNumbers (HasPred kind.Concept p) facts numbers → HasEach facts bindings (atom.Concept p t) (Contains numbers)
  by_concept t are v n f agrees at is = (are.exact n).1 (f, pred v t f is, at)
    where
      pred : (v : ℕ → ℕ) (t : Term) (f : Fact) → AtomIs v (atom.Concept p t) f → HasPred kind.Concept p f
      pred v t (fact.Concept q c) h = h.0
      pred v t (fact.Link q c d) h = h

  pub by_member : (t : Term) (i : ℕ) → IsKnown bindings t i → AreNumbers (HasFirst kind.Concept p i) facts numbers
      → HasEach facts bindings (atom.Concept p t) (Contains numbers)
  by_member t i known are v n f agrees at is = (are.exact n).1 (f, first v t f (known v) agrees is, at)
    where
      first : (v : ℕ → ℕ) (t : Term) (f : Fact) → ((d : ℕ) → Agrees bindings v → TermIs v t d ↔ (d ≡ i)) → Agrees bindings v → AtomIs v (atom.Concept p t) f
          → HasFirst kind.Concept p i f
      first v t (fact.Concept q c) known agrees h = (h.0, sym ((known c agrees).0 h.1))
      first v t (fact.Link q c d) known agrees h = h

  pub by_role : (s t : Term) → AreNumbers (HasPred kind.Link p) facts numbers → HasEach facts bindings (atom.Link p s t) (Contains numbers)
  by_role s t are v n f agrees at is = (are.exact n).1 (f, pred v s t f is, at)
    where
      pred : (v : ℕ → ℕ) (s t : Term) (f : Fact) → AtomIs v (atom.Link p s t) f → HasPred kind.Link p f
      pred v s t (fact.Concept q c) h = h
      pred v s t (fact.Link q c d) h = h.0

  pub by_from : (s t : Term) (i : ℕ) → IsKnown bindings s i → AreNumbers (HasFirst kind.Link p i) facts numbers
      → HasEach facts bindings (atom.Link p s t) (Contains numbers)
  by_from s t i known are v n f agrees at is = (are.exact n).1 (f, first v s t f (known v) agrees is, at)
    where
      first : (v : ℕ → ℕ) (s t : Term) (f : Fact) → ((d : ℕ) → Agrees bindings v → TermIs v s d ↔ (d ≡ i)) → Agrees bindings v → AtomIs v (atom.Link p s t) f
          → HasFirst kind.Link p i f
      first v s t (fact.Concept q c) known agrees h = h
      first v s t (fact.Link q c d) known agrees h = (h.0, sym ((known c agrees).0 h.1))

  pub by_to : (s t : Term) (i : ℕ) → IsKnown bindings t i → AreNumbers (HasSecond p i) facts numbers
      → HasEach facts bindings (atom.Link p s t) (Contains numbers)
  by_to s t i known are v n f agrees at is = (are.exact n).1 (f, second v s t f (known v) agrees is, at)
    where
      second : (v : ℕ → ℕ) (s t : Term) (f : Fact) → ((d : ℕ) → Agrees bindings v → TermIs v t d ↔ (d ≡ i)) → Agrees bindings v → AtomIs v (atom.Link p s t) f
          → HasSecond p i f
      second v s t (fact.Concept q c) known agrees h = h
      second v s t (fact.Link q c d) known agrees h = (h.0, sym ((known d agrees).0 h.2))

-- what holds of both lists holds of the shorter
pub of_either : (P : List ℕ → Type 0) (xs left right : List ℕ) → (xs ≡ left) ⊎ (xs ≡ right) → P left → P right → P xs
of_either P xs left right (inl e) l r = subst P (sym e) l
of_either P xs left right (inr e) l r = subst P (sym e) r
