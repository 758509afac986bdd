-- Variables bound to individuals, and what a term and an atom may be where a valuation agrees with that.
use Rattle.std.specs.Prelude.{◌≡◌, ℕ, ◌↔◌, List, ◌++◌, All, Any, Bool, IsTrue, IsFalse}
use Rattle.std.specs.List.{AllZip}
use Rattle.cq_terms.specs.declared.facts.Fact.{Fact}
use Rattle.cq_terms.specs.declared.facts.Fact.TheVariants as fact
use Rattle.cq_terms.specs.declared.query.Term.{Term}
use Rattle.cq_terms.specs.declared.query.Term.TheVariants as term
use Rattle.cq_terms.specs.declared.query.QAtom.{QAtom}
use Rattle.cq_terms.specs.declared.query.QAtom.TheVariants as atom
use Rattle.query_matching.specs.declared.bindings.Binding.{Binding}

-- the valuation gives each bound variable its individual
abbrev pub Agrees : List Binding → (ℕ → ℕ) → Type 0
Agrees bindings v = All (λ b. v b.variable ≡ b.individual) bindings

-- some valuation does
abbrev pub AreConsistent : List Binding → Type 0
AreConsistent bindings = (v : ℕ → ℕ) × Agrees bindings v

-- the variable is bound
abbrev pub IsBound : List Binding → ℕ → Type 0
IsBound bindings l = Any (λ b. b.variable ≡ l) bindings

-- the term may be the individual
abbrev pub TermIs : (ℕ → ℕ) → Term → ℕ → Type 0
TermIs v (term.Var l) c = c ≡ v l
TermIs v (term.Ind d) c = c ≡ d
TermIs v term.Any c = Unit {0}

-- the atom may be the fact; each `_` has an individual of its own
abbrev pub AtomIs : (ℕ → ℕ) → QAtom → Fact → Type 0
AtomIs v (atom.Concept p t) (fact.Concept q c) = (p ≡ q) × TermIs v t c
AtomIs v (atom.Link p s t) (fact.Link q c d) = (p ≡ q) × TermIs v s c × TermIs v t d
AtomIs v (atom.Concept p t) (fact.Link q c d) = ⊥
AtomIs v (atom.Link p s t) (fact.Concept q c) = ⊥

-- the head is the tuple
abbrev pub HeadIs : (ℕ → ℕ) → List Term → List ℕ → Type 0
HeadIs v head tuple = AllZip (TermIs v) head tuple

-- several individuals may be the term: it is an unbound variable, or `_`
abbrev pub MayBeSeveral : List Binding → Term → Type 0
MayBeSeveral bindings (term.Var l) = ¬ IsBound bindings l
MayBeSeveral bindings (term.Ind c) = ⊥
MayBeSeveral bindings term.Any = Unit {0}

-- the variable is the term
abbrev pub IsVar : Term → ℕ → Type 0
IsVar t l = t ≡ term.Var l

-- the bindings were extended so that exactly those valuations agree that agreed and have P, and so that the variables that
-- stand there are bound; or no valuation that agreed has P
pub record Binds (P : (ℕ → ℕ) → Type 0) (stands : ℕ → Type 0) (old new : List Binding) (fits : Bool) : Type 0 where
  pub grown : (more : List Binding) × (new ≡ old ++ more)
  pub consistent : IsTrue fits → AreConsistent new
  pub exact : IsTrue fits → (v : ℕ → ℕ) → Agrees new v ↔ (Agrees old v × P v)
  pub bound : IsTrue fits → (l : ℕ) → stands l → IsBound new l
  pub never : IsFalse fits → (v : ℕ → ℕ) → Agrees old v → ¬ P v
