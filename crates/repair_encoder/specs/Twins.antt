-- Facts that share one clause: each blocks the other, and any other fact blocks both or neither.
use Rattle.std.specs.Prelude.{◌≡◌, ℕ, ◌<◌, ◌⊎◌, ◌↔◌, List, [], ◌∷◌, ◌++◌}
use Rattle.priority_graph.specs.Priority.{Priority}
use Rattle.repair_clauses.specs.BaseClauses.{Blocks, IsFactClause}

-- the clause of the fact speaks of the other one: they are the same, or the other one blocks the fact
abbrev pub SpeaksOf : Priority → ℕ → ℕ → Type 0
SpeaksOf p fact other = (other ≡ fact) ⊎ Blocks p fact other

-- the clauses of the two facts speak of the same facts
abbrev pub AreTwins : Priority → ℕ → ℕ → Type 0
AreTwins p i j = (f : ℕ) → SpeaksOf p i f ↔ SpeaksOf p j f

-- a lesser fact shares the clause of the fact
abbrev pub HasLesserTwin : Priority → ℕ → Type 0
HasLesserTwin p fact = (e : ℕ) × (e < fact) × AreTwins p fact e

-- the list has got the clause of the fact, unless that of a lesser twin stands for it
abbrev pub PushesFact : Priority → ℕ → List (List ℕ) → List (List ℕ) → Type 0
PushesFact p fact old new =
    (HasLesserTwin p fact × (new ≡ old)) ⊎ ((¬ HasLesserTwin p fact) × ((c : List ℕ) × IsFactClause p fact c × (new ≡ old ++ c ∷ [])))
