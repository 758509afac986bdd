-- What each line gives, and what a text comes to.
use Rattle.std.specs.Prelude.{◌≡◌, ℕ, ◌+◌, ◌≤◌, ◌⊎◌, List, [], ◌∷◌, ◌++◌, length, IsTrue}
use Rattle.std.specs.Str.{IsUtf8}
use Rattle.axiom_reader.specs.Axioms.{NamedAxiom, Says}
use Rattle.axiom_reader.specs.Lines.{is_silent, lines_of}

-- what a line may give
pub data LineOutcome : Type 0 where
  nothing : LineOutcome
  one : NamedAxiom → LineOutcome
  not_utf8 : LineOutcome
  bad : LineOutcome

-- what a line gives: one that isn't silent is one axiom, and else faulty
abbrev pub Gives : List ℕ → LineOutcome → Type 0
Gives line nothing = IsTrue (is_silent line)
Gives line (one named) = (¬ (IsTrue (is_silent line))) × IsUtf8 line × Says line named
Gives line not_utf8 = (¬ (IsTrue (is_silent line))) × (¬ (IsUtf8 line))
Gives line bad = (¬ (IsTrue (is_silent line))) × IsUtf8 line × ((named : NamedAxiom) → ¬ (Says line named))

-- each line gives nothing or an axiom, and these are the axioms in order
abbrev pub GiveAxioms : List (List ℕ) → List NamedAxiom → Type 0
GiveAxioms [] axioms = axioms ≡ []
GiveAxioms (line ∷ lines) axioms =
    (Gives line nothing × GiveAxioms lines axioms)
    ⊎ ((first : NamedAxiom) × (more : List NamedAxiom) × Gives line (one first) × GiveAxioms lines more × (axioms ≡ first ∷ more))

-- how many axioms a text may have
abbrev pub most_axioms : ℕ
most_axioms = 20000

-- why a text may be refused
pub data Fault : Type 0 where
  line_not_utf8 : Fault
  bad_line : Fault
  too_many : Fault

-- the line has the fault where so many axioms stand before it
abbrev pub HasFault : Fault → ℕ → List ℕ → Type 0
HasFault line_not_utf8 count line = Gives line not_utf8
HasFault bad_line count line = Gives line bad
HasFault too_many count line = (count ≡ most_axioms) × ((named : NamedAxiom) × Gives line (one named))

-- the first line that has a fault has this one, and this number, from 1
pub record FirstFault (bytes : List ℕ) (fault : Fault) (number : ℕ) : Type 0 where
  pub before : List (List ℕ)
  pub line : List ℕ
  pub after : List (List ℕ)
  pub axioms : List NamedAxiom
  pub lines : lines_of bytes ≡ before ++ line ∷ after
  pub place : number ≡ length before + 1
  pub given : GiveAxioms before axioms
  pub few : length axioms ≤ most_axioms
  pub has_fault : HasFault fault (length axioms) line

-- what a text may come to
pub data TextOutcome : Type 0 where
  reads : List NamedAxiom → TextOutcome
  refuses : Fault → ℕ → TextOutcome

-- what a text comes to
abbrev pub ComesTo : List ℕ → TextOutcome → Type 0
ComesTo bytes (reads axioms) = GiveAxioms (lines_of bytes) axioms × (length axioms ≤ most_axioms)
ComesTo bytes (refuses fault number) = FirstFault bytes fault number

-- there is one such thing, and no other
abbrev pub ExactlyOne : {A : Type 0} → (A → Type 0) → Type 0
ExactlyOne {A} Is = ((one : A) × Is one) × ((first second : A) → Is first → Is second → first ≡ second)

-- each line gives exactly one thing
abbrev pub EachLineGivesOneThing : Type 0
EachLineGivesOneThing = (line : List ℕ) → ExactlyOne (Gives line)

-- no text has two readings: each comes to exactly one thing
abbrev pub EachTextHasOneReading : Type 0
EachTextHasOneReading = (bytes : List ℕ) → ExactlyOne (ComesTo bytes)
