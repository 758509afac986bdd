-- The laws of cycles: when pieces tell none, and how two right beginnings of the same pieces stand to each other.
use Rattle.std.specs.Prelude.{◌≡◌, ◌≢◌, ◌⊎◌, ◌++◌, ℕ, suc, length, List, [], ◌∷◌, map, reverse, Option, Some}
use Rattle.cq_terms.specs.declared.facts.Repairs.TheVariants as mode
use Rattle.cq_terms.specs.Knowledge.{Knowledge}
use Rattle.cq_terms.specs.Query.{Query}
use Rattle.cq_meaning.specs.Repairs.{IsAcyclic}
use Rattle.report_text.specs.declared.line.Line.{Line}
use Rattle.report_text.specs.declared.line.Line.TheVariants as line
use Rattle.report_rules.specs.declared.place.Place.TheVariants.{InConflicts, AtEnd}
use Rattle.report_rules.specs.declared.rule.Rule.{Rule}
use Rattle.report_rules.specs.Inputs.{report_on}
use Rattle.report_rules.specs.ConflictLists.{AreConflictLists}
use Rattle.report_rules.specs.Order.{place_of}
use Rattle.report_rules.specs.Told.{mode_of, conflicts_of}
use Rattle.report_rules.specs.Accepted.{Right, AreRight}
use Rattle.report_rules.specs.Broken.{IsBrokenAt, HasCycle}

-- the first lines, newest first, are the second ones with some behind them; these come first in what follows the second
abbrev pub GoesOn : List Line → List (Option Line) → List Line → List (Option Line) → Type 0
GoesOn more rest less others = (between : List Line) × (more ≡ between ++ less) × (others ≡ map Some (reverse between) ++ rest)

-- of two beginnings of the same pieces one goes on behind the other
abbrev pub BeginningsCompare : Type 0
BeginningsCompare = (one other : List Line) (rest others : List (Option Line))
    → map Some (reverse one) ++ rest ≡ map Some (reverse other) ++ others
    → GoesOn one rest other others ⊎ GoesOn other others one rest

-- behind the last of all conflicts, under a head that asks for a priority with a cycle, the cycle is told, whatever follows
abbrev pub CycleIsTold : Type 0
CycleIsTold = (kb : Knowledge) (names : List (List ℕ)) (q : Query) (before : List Line) (rest : List (Option Line))
    → AreRight (report_on kb names q) before → place_of before ≡ InConflicts → AreConflictLists kb (conflicts_of before)
    → mode_of before ≡ mode.Pareto → ¬ IsAcyclic kb mode.Pareto → HasCycle kb names q (map Some (reverse before) ++ rest)

-- none is told of an acyclic priority
abbrev pub AcyclicTellsNone : Type 0
AcyclicTellsNone = (kb : Knowledge) (names : List (List ℕ)) (q : Query) (pieces : List (Option Line)) → IsAcyclic kb mode.Pareto
    → ¬ HasCycle kb names q pieces

-- a table with no conflicts has an acyclic priority
abbrev pub NoConflictsNoCycle : Type 0
NoConflictsNoCycle = (kb : Knowledge) → AreConflictLists kb [] → IsAcyclic kb mode.Pareto

-- none is told where the head asks for all repairs
abbrev pub AllTellsNone : Type 0
AllTellsNone = (kb : Knowledge) (names : List (List ℕ)) (q : Query) (before : List Line) (rest : List (Option Line))
    → AreRight (report_on kb names q) before → before ≢ [] → mode_of before ≡ mode.All
    → ¬ HasCycle kb names q (map Some (reverse before) ++ rest)

-- none is told where right lines leave a conflict out and what follows at once is broken
abbrev pub IncompleteTellsNone : Type 0
IncompleteTellsNone = (kb : Knowledge) (names : List (List ℕ)) (q : Query) (before : List Line) (rest : List (Option Line)) (r : Rule)
    → AreRight (report_on kb names q) before → ¬ AreConflictLists kb (conflicts_of before)
    → IsBrokenAt (report_on kb names q) before rest (suc (length before)) r
    → ¬ HasCycle kb names q (map Some (reverse before) ++ rest)

-- what a reader keeps of cycles: once the lines have told all conflicts, all repairs are asked about or the priority is acyclic
abbrev pub IsAcyclicSo : Knowledge → List Line → Type 0
IsAcyclicSo kb before = AreConflictLists kb (conflicts_of before)
    → ((mode_of before ≡ mode.All) × (before ≢ [])) ⊎ IsAcyclic kb mode.Pareto

-- the line tells a conflict
abbrev pub IsConflictLine : Line → Type 0
IsConflictLine (line.Conflict facts rule member) = Unit {0}
IsConflictLine _ = ⊥

-- it is so at the beginning, and stays so behind a right line that tells no conflict
abbrev pub AcyclicStays : Type 0
AcyclicStays = (kb : Knowledge) → IsAcyclicSo kb []
    × ((names : List (List ℕ)) (q : Query) (before : List Line) (l : Line) → Right (report_on kb names q) before l → ¬ IsConflictLine l
    → IsAcyclicSo kb before → IsAcyclicSo kb (l ∷ before))

-- where it is so, what is broken at the next line tells no cycle
abbrev pub BrokenTellsNone : Type 0
BrokenTellsNone = (kb : Knowledge) (names : List (List ℕ)) (q : Query) (before : List Line) (rest : List (Option Line)) (r : Rule)
    → AreRight (report_on kb names q) before → IsAcyclicSo kb before
    → IsBrokenAt (report_on kb names q) before rest (suc (length before)) r
    → ¬ HasCycle kb names q (map Some (reverse before) ++ rest)

-- nor does what has ended
abbrev pub EndedTellsNone : Type 0
EndedTellsNone = (kb : Knowledge) (names : List (List ℕ)) (q : Query) (before : List Line) (rest : List (Option Line))
    → AreRight (report_on kb names q) before → IsAcyclicSo kb before → place_of before ≡ AtEnd
    → ¬ HasCycle kb names q (map Some (reverse before) ++ rest)

-- the laws of cycles
pub record LawsOfCycles : Type 0 where
  pub compare : BeginningsCompare
  pub told : CycleIsTold
  pub acyclic : AcyclicTellsNone
  pub no_conflicts : NoConflictsNoCycle
  pub all_repairs : AllTellsNone
  pub incomplete : IncompleteTellsNone
  pub stays : AcyclicStays
  pub broken : BrokenTellsNone
  pub ended : EndedTellsNone
