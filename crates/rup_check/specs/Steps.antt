-- What a look at one clause, and at the clauses of a list, says of the marks.
use Rattle.std.specs.Prelude.{◌≡◌, ◌<◌, ◌++◌, ◌⊎◌, ℕ, List, Option, Contains, take}
use Rattle.clause_meaning.specs.Literals.{variable_of}
use Rattle.clause_meaning.specs.Refutation.{Reaches}
use Rattle.clause_meaning.specs.Resting.{RestsUntil, Rests}
use Rattle.clause_meaning.specs.declared.findings.Finding.{Finding}
use Rattle.clause_meaning.specs.declared.findings.Finding.TheVariants as finding
use Rattle.rup_check.specs.Slots.{IsAt, HeldIn}
use Rattle.rup_check.specs.Marks.{IsMarked, AreConsistent}

-- the literal that was found has a variable below the number of variables
abbrev pub FindsBelow : ℕ → Finding → Type 0
FindsBelow variables finding.IsFalse = Unit {0}
FindsBelow variables (finding.Forces l) = variable_of l < variables
FindsBelow variables finding.Rests = Unit {0}

-- literals were marked after the old ones, which the live clauses force
pub record GrowsBy (slots : List (Option (List ℕ))) (old new : List ℕ) : Type 0 where
  pub more : (later : List ℕ) × (new ≡ old ++ later)
  pub reached : (l : ℕ) → IsMarked new l → Reaches (HeldIn slots) (IsMarked old) l
  pub consistent : AreConsistent new

-- each live clause of the numbers was looked at when the old literals were marked, and what they force is among the new ones
abbrev pub RestAmong : List (Option (List ℕ)) → List ℕ → List ℕ → List ℕ → Type 0
RestAmong slots numbers old new = (n : ℕ) (c : List ℕ) → Contains numbers n → IsAt slots n c → RestsUntil (IsMarked old) (IsMarked new) c

-- each live clause has one of the numbers, or rests under the marks
abbrev pub RestOrListed : List (Option (List ℕ)) → List ℕ → List ℕ → Type 0
RestOrListed slots numbers marked = (n : ℕ) (c : List ℕ) → IsAt slots n c → Contains numbers n ⊎ Rests (IsMarked marked) c

-- the same, where only the first literals that were marked are true
abbrev pub RestOrListedFrom : ℕ → List (Option (List ℕ)) → List ℕ → List ℕ → Type 0
RestOrListedFrom from slots numbers marked =
    (n : ℕ) (c : List ℕ) → IsAt slots n c → Contains numbers n ⊎ RestsUntil (Contains (take from marked)) (IsMarked marked) c
