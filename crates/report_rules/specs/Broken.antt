-- The first broken line of a report on one query, and its rule. A report comes in pieces, each up to a line feed; a piece that is
-- the text of no line is none.
use Rattle.std.specs.Prelude.{◌≡◌, ◌≢◌, ℕ, suc, ◌⊎◌, List, [], ◌∷◌, ◌++◌, map, reverse, length, Option, Some, None}
use Rattle.cq_terms.specs.declared.facts.Repairs.TheVariants as mode
use Rattle.cq_terms.specs.Knowledge.{Knowledge}
use Rattle.cq_terms.specs.Query.{Query}
use Rattle.cq_meaning.specs.Repairs.{IsAcyclic}
use Rattle.report_text.specs.declared.line.Line.{Line}
use Rattle.report_text.specs.declared.line.Line.TheVariants as line
use Rattle.report_rules.specs.declared.rule.Rule.{Rule}
use Rattle.report_rules.specs.declared.rule.Rule.TheVariants as rule
use Rattle.report_rules.specs.declared.place.Place.TheVariants.{AtEnd, InConflicts}
use Rattle.report_rules.specs.Inputs.{Input, report_on}
use Rattle.report_rules.specs.ConflictLists.{AreConflictLists}
use Rattle.report_rules.specs.Order.{place_of, MayCome}
use Rattle.report_rules.specs.Told.{mode_of, conflicts_of, HasQueryLeft}
use Rattle.report_rules.specs.Blocks.{LeavesClosed}
use Rattle.report_rules.specs.Rules.{LeavesNoneOut}
use Rattle.report_rules.specs.Accepted.{Obeys, Right, AreRight}

-- the rule of the line's own kind
abbrev pub rule_of : Line → Rule
rule_of (line.Head _ _ _ _ _ _) = rule.Head
rule_of (line.Cq _ _ _) = rule.Cq
rule_of (line.Conflict _ _ _) = rule.Conflict
rule_of (line.Ask _ _ _ _) = rule.Ask
rule_of (line.Try _ _) = rule.Try
rule_of (line.Learn _ _) = rule.Learn
rule_of (line.Core _ _ _) = rule.Core
rule_of (line.Done _ _) = rule.Done
rule_of (line.Forget _) = rule.Forget
rule_of (line.Answer _ _ _ _ _ _) = rule.Answer
rule_of (line.End _ _ _ _ _) = rule.End

-- the line may stand there: its kind at the place, and in a session while a query is left
abbrev pub IsInOrder : Input → List Line → Line → Type 0
IsInOrder input before line = MayCome input.form input.kb.axioms (place_of before) line × HasQueryLeft input before line

-- the line breaks the rule, and none that is tried before it
abbrev pub Breaks : Input → List Line → Line → Rule → Type 0
Breaks input before line r = ((r ≡ rule.Order) × ¬ IsInOrder input before line)
    ⊎ (IsInOrder input before line × (((r ≡ rule.Closed) × ¬ LeavesClosed input before line)
    ⊎ (LeavesClosed input before line × (((r ≡ rule.Conflict) × ¬ LeavesNoneOut input before line)
    ⊎ (LeavesNoneOut input before line × ((r ≡ rule_of line) × ¬ Obeys input before line))))))

-- after the lines before, newest first, these pieces are broken first at line n, by the rule
abbrev pub IsBrokenAt : Input → List Line → List (Option Line) → ℕ → Rule → Type 0
IsBrokenAt input before [] n r = (place_of before ≢ AtEnd) × (n ≡ suc (length before)) × (r ≡ rule.Missing)
IsBrokenAt input before (None ∷ rest) n r = (n ≡ suc (length before)) × (r ≡ rule.Text)
IsBrokenAt input before (Some line ∷ rest) n r = (Breaks input before line r × (n ≡ suc (length before)))
    ⊎ (Right input before line × IsBrokenAt input (line ∷ before) rest n r)

-- after the lines before these pieces are lines, each right after those before it, and the last is `end`
abbrev pub IsAcceptedAfter : Input → List Line → List (Option Line) → Type 0
IsAcceptedAfter input before [] = place_of before ≡ AtEnd
IsAcceptedAfter input before (None ∷ rest) = ⊥
IsAcceptedAfter input before (Some line ∷ rest) = Right input before line × IsAcceptedAfter input (line ∷ before) rest

-- the pieces are an accepted report on the query
abbrev pub IsAccepted : Knowledge → List (List ℕ) → Query → List (Option Line) → Type 0
IsAccepted kb names q pieces = IsAcceptedAfter (report_on kb names q) [] pieces

-- the pieces are broken first at line n, from 1, by the rule
abbrev pub IsBrokenFirst : Knowledge → List (List ℕ) → Query → List (Option Line) → ℕ → Rule → Type 0
IsBrokenFirst kb names q pieces n r = IsBrokenAt (report_on kb names q) [] pieces n r

-- right lines up to the last of all conflicts, where the head asks for the priority and this has a cycle; later pieces play no part
abbrev pub HasCycle : Knowledge → List (List ℕ) → Query → List (Option Line) → Type 0
HasCycle kb names q pieces = (early : List Line) × (later : List (Option Line)) × (pieces ≡ map Some (reverse early) ++ later)
    × AreRight (report_on kb names q) early × (place_of early ≡ InConflicts) × AreConflictLists kb (conflicts_of early)
    × (mode_of early ≡ mode.Pareto) × ¬ IsAcyclic kb mode.Pareto
