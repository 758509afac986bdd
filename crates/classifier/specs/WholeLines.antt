-- The lines of a report before its first answer.
use Rattle.std.specs.Prelude.{◌≡◌, ◌⊎◌, ℕ, List, ◌∷◌, ◌++◌, map, length}
use Rattle.std.specs.List.{flat_map}
use Rattle.cq_terms.specs.declared.hits.Clash.{Clash}
use Rattle.cq_terms.specs.Knowledge.{Knowledge}
use Rattle.cq_steps.specs.declared.closure.Member.{Member}
use Rattle.report_text.specs.declared.line.Line.{Line}
use Rattle.report_text.specs.declared.line.Line.TheVariants as line
use Rattle.report_text.specs.declared.line.Origin.{Origin}
use Rattle.report_text.specs.declared.line.Origin.TheVariants as origin
use Rattle.answer_desk.specs.declared.plan.Plan.{Plan}

-- the line of the sizes and the options
abbrev pub head_line : Knowledge → Plan → Line
head_line kb plan = line.Head (length kb.axioms) plan.budget (length kb.facts) plan.keep plan.repairs 1

-- the line of a member of a closure
abbrev pub cq_line : Origin → Member → Line
cq_line o m = line.Cq o m.query m.step

-- the lines of a closure
abbrev pub cq_lines : Origin → List Member → List Line
cq_lines o members = map (cq_line o) members

-- the lines of the closure of a disjointness
abbrev pub negative_lines : ℕ × List Member → List Line
negative_lines closure = cq_lines (origin.Negative closure.0) closure.1

-- the lines of the closures of all disjointnesses
abbrev pub block_lines : List (ℕ × List Member) → List Line
block_lines closures = flat_map negative_lines closures

-- the clash is of one fact or two
abbrev pub HasOneOrTwo : Clash → Type 0
HasOneOrTwo c = (length c.facts ≡ 1) ⊎ (length c.facts ≡ 2)

-- the line of a clash
abbrev pub conflict_line : Clash → Line
conflict_line c = line.Conflict c.facts c.«axiom» c.member

abbrev pub conflict_lines : List Clash → List Line
conflict_lines clashes = map conflict_line clashes

-- the head, the blocks and the conflicts
abbrev pub opening_lines : Knowledge → Plan → List Member → List (ℕ × List Member) → List Clash → List Line
opening_lines kb plan members closures clashes =
    head_line kb plan ∷ (cq_lines origin.Query members ++ (block_lines closures ++ conflict_lines clashes))
