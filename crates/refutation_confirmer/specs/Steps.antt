-- What the steps of a reader take for granted of the next line, and what they keep.
use Rattle.std.specs.Prelude.{◌≡◌, ◌↔◌, ℕ, List, ◌∷◌, length, Bool, IsTrue, IfSome, IsSome}
use Rattle.cq_terms.specs.Knowledge.{Knowledge}
use Rattle.cq_terms.specs.Query.{Query}
use Rattle.report_text.specs.declared.line.Line.{Line}
use Rattle.report_text.specs.declared.line.Line.TheVariants as line
use Rattle.report_text.specs.declared.line.Origin.{Origin}
use Rattle.report_rules.specs.declared.place.Place.TheVariants.{InBlock}
use Rattle.report_rules.specs.Inputs.{Input, OneQuery, report_on}
use Rattle.report_rules.specs.Order.{MayCome, AreBlocksOver}
use Rattle.report_rules.specs.Blocks.{IsClosedBlock}
use Rattle.report_rules.specs.Accepted.{Obeys, Right}
use Rattle.report_laws.specs.Standing.{members_at}
use Rattle.refutation_confirmer.specs.Kinds.{IsBegun}
use Rattle.refutation_confirmer.specs.State.{State, AreKnown, Fits}

-- the state fits some lines of a report on the knowledge base
pub record FitsSome (kb : Knowledge) (s : State) : Type 0 where
  pub names : List (List ℕ)
  pub query : Query
  pub before : List Line
  pub fits : Fits (report_on kb names query) before s

-- and the line is right behind them
pub record FitsBefore (kb : Knowledge) (s : State) (l : Line) : Type 0 where
  pub names : List (List ℕ)
  pub query : Query
  pub before : List Line
  pub fits : Fits (report_on kb names query) before s
  pub right : Right (report_on kb names query) before l

-- the state fits some lines, and the line may come behind them
pub record Comes (kb : Knowledge) (s : State) (l : Line) : Type 0 where
  pub some : FitsSome kb s
  pub order : MayCome OneQuery kb.axioms s.standing.place l

-- the state fits some lines whose blocks are over and closed, unless an answer has begun
pub record HasBlocks (kb : Knowledge) (s : State) : Type 0 where
  pub some : FitsSome kb s
  pub over : ¬ IsBegun s.standing.place → AreBlocksOver OneQuery kb.axioms s.standing.place
  pub closed : ¬ IsBegun s.standing.place → (o : Origin) → s.standing.place ≡ InBlock o → IsClosedBlock kb.axioms (members_at s.standing.blocks o)

-- and all conflicts are known and told
pub record HasConflicts (kb : Knowledge) (s : State) : Type 0 where
  pub blocks : HasBlocks kb s
  pub known : IsSome s.conflicts
  pub told : IfSome s.conflicts (λ g. s.standing.told ≡ length g.clashes)

-- what the rule of a line of the kind asks for is known
abbrev pub IsReadyFor : State → Line → Type 0
IsReadyFor s (line.Head _ _ _ _ _ _) = Unit {0}
IsReadyFor s (line.Cq _ _ _) = Unit {0}
IsReadyFor s (line.Conflict _ _ _) = IsSome s.conflicts
IsReadyFor s _ = AreKnown s

-- the answer tells whether the line obeys the rule of its own kind
abbrev pub TellsRule : Input → State → Line → Bool → Type 0
TellsRule input s l answer = (before : List Line) → Fits input before s → IsTrue answer ↔ Obeys input before l

-- what the first state fits, the second fits too
abbrev pub StillFits : Knowledge → State → State → Type 0
StillFits kb s t = (names : List (List ℕ)) (q : Query) (before : List Line) → Fits (report_on kb names q) before s
    → Fits (report_on kb names q) before t

-- behind what the first state fits, the second fits the line too, where it is right there
abbrev pub Takes : Knowledge → State → Line → State → Type 0
Takes kb s l t = (names : List (List ℕ)) (q : Query) (before : List Line) → Fits (report_on kb names q) before s
    → Right (report_on kb names q) before l → Fits (report_on kb names q) (l ∷ before) t
