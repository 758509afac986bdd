-- Unit propagation as a relation: what a finite chain of literals refutes. A set of clauses, or of literals, is what its members
-- have in common; a list is read as a set by `Contains`.
use Rattle.std.specs.Prelude.{◌≢◌, ◌⊎◌, ℕ, List, [], ◌∷◌, Contains}
use Rattle.clause_meaning.specs.Literals.{opposite_of}

-- the clause has the literal, and the opposites of its other literals are known
pub record Forces (clause : List ℕ) (Known : ℕ → Type 0) (l : ℕ) : Type 0 where
  pub member : Contains clause l
  pub others : (k : ℕ) → Contains clause k → k ≢ l → Known (opposite_of k)

-- the opposites of all its literals are known
abbrev pub IsFalseUnder : (ℕ → Type 0) → List ℕ → Type 0
IsFalseUnder Known clause = (k : ℕ) → Contains clause k → Known (opposite_of k)

-- newest first: each literal is given, or a clause forces it by the literals listed before it
abbrev pub IsChain : (List ℕ → Type 0) → (ℕ → Type 0) → List ℕ → Type 0
IsChain S L [] = Unit {0}
IsChain S L (l ∷ before) = (L l ⊎ ((c : List ℕ) × S c × Forces c (Contains before) l)) × IsChain S L before

-- a clause is false, or two opposite literals are known
abbrev pub Clashes : (List ℕ → Type 0) → (ℕ → Type 0) → Type 0
Clashes S Known = ((c : List ℕ) × S c × IsFalseUnder Known c) ⊎ ((l : ℕ) × Known l × Known (opposite_of l))

-- propagation with the clauses S from the literals L ends in a clash
abbrev pub Refutes : (List ℕ → Type 0) → (ℕ → Type 0) → Type 0
Refutes S L = (chain : List ℕ) × IsChain S L chain × Clashes S (Contains chain)

-- propagation with the clauses S from the literals L makes the literal true
abbrev pub Reaches : (List ℕ → Type 0) → (ℕ → Type 0) → ℕ → Type 0
Reaches S L l = (chain : List ℕ) × IsChain S L chain × Contains chain l

-- propagation has come to its end without a clash: each literal that a clause forces is known
pub record IsClosed (S : List ℕ → Type 0) (Known : ℕ → Type 0) : Type 0 where
  pub forced : (c : List ℕ) (l : ℕ) → S c → Forces c Known l → Known l
  pub no_clash : Clashes S Known → ⊥

-- the opposites of a clause's literals
abbrev pub OppositesOf : List ℕ → ℕ → Type 0
OppositesOf clause l = Contains clause (opposite_of l)

-- the clauses S refute the opposites of the clause's literals
abbrev pub Follows : (List ℕ → Type 0) → List ℕ → Type 0
Follows S clause = Refutes S (OppositesOf clause)

-- one clause has all literals of the other
abbrev pub IsWithin : List ℕ → List ℕ → Type 0
IsWithin small large = (l : ℕ) → Contains small l → Contains large l

-- some clause of S is within the clause
abbrev pub ContainsOneOf : (List ℕ → Type 0) → List ℕ → Type 0
ContainsOneOf S clause = (c : List ℕ) × S c × IsWithin c clause
