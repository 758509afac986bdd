-- Labels beside the clauses of an arena, and which clauses go.
use Rattle.std.specs.Prelude.{◌≡◌, ℕ, List, [], ◌∷◌, Bool, true, false, Option, not, length, filter, Contains}
use Rattle.clause_arena.specs.State.{HeldClause, without}
use Rattle.cdcl_core.specs.declared.labels.Label.{Label}
use Rattle.cdcl_core.specs.declared.labels.Selection.{Selection}
use Rattle.cdcl_core.specs.declared.labels.Selection.TheVariants as selection
use Rattle.cdcl_core.specs.State.{LiveClause, mentions, is_number, put_number}

-- the clauses with the numbers of their labels, in order
abbrev pub labelled : List Label → List HeldClause → List LiveClause
labelled [] live = []
labelled (label ∷ labels) [] = []
labelled (label ∷ labels) (held ∷ live) = record { number = label.number; literals = held.literals } ∷ labelled labels live

-- whether the clause is among those that go
abbrev pub is_taken : Selection → LiveClause → Bool
is_taken (selection.With v) entry = mentions v entry.literals
is_taken (selection.Numbered n) entry = is_number n entry.number

-- the numbers on the labels, in order
abbrev pub numbers_on : List Label → List ℕ
numbers_on [] = []
numbers_on (label ∷ labels) = put_number label.number (numbers_on labels)

-- whether the label stays
abbrev pub stays : Label → Bool
stays label = not label.goes

-- the clauses that are taken go, and the labels of the others stay
pub record Drops (which : Selection) (labels : List Label) (live : List HeldClause) (new_labels : List Label) (new_live : List HeldClause) : Type 0 where
  pub shown : labelled (filter stays new_labels) new_live ≡ filter (λ entry. not (is_taken which entry)) (labelled labels live)
  pub parallel : length (filter stays new_labels) ≡ length new_live

-- whether the clause of the reference is taken
abbrev pub IsTakenAt : Selection → Option ℕ → ℕ → List HeldClause → Bool → Type 0
IsTakenAt which number reference live taken = (literals : List ℕ) → Contains live (record { reference = reference; literals = literals })
    → is_taken which (record { number = number; literals = literals }) ≡ taken

-- the clause of the reference goes where it is taken, and else all stay
abbrev pub DropsIf : Selection → Option ℕ → ℕ → List HeldClause → List HeldClause → Bool → Type 0
DropsIf which number reference live new true = IsTakenAt which number reference live true × (new ≡ without live reference)
DropsIf which number reference live new false = IsTakenAt which number reference live false × (new ≡ live)
