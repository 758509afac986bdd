-- What the rules on tries may take for granted of right lines: the facts and the selector are variables of the checker, and the priority is over
-- the conflicts.
use Rattle.std.proofs.Common.{◌≡◌, ◌<◌, ◌≤◌, ◌⊎◌, ℕ, List, [], ◌∷◌, length, map, All, Contains, sym, subst, ap, ◌∙◌, arith}
use Rattle.clause_meaning.specs.Literals.{AreBelow, variable_of}
use Rattle.clause_meaning.proofs.Members.{Contains-map_cases}
use Rattle.cq_terms.specs.declared.facts.Repairs.{Repairs}
use Rattle.cq_terms.specs.Conflicts.{ConflictGraph, own_facts, couples}
use Rattle.cq_terms.specs.Knowledge.{Knowledge}
use Rattle.cq_meaning.specs.ConflictGraphs.{AreConflictsOf}
use Rattle.cq_meaning.proofs.Ascending.{All-of}
use Rattle.priority_graph.specs.Priority.{Priority, IsOver}
use Rattle.priority_graph.specs.Inputs.{IsPriorityOf}
use Rattle.repair_clauses.specs.BaseClauses.{present, absent}
use Rattle.repair_clauses.proofs.LiteralLemmas.{variable_of-present, variable_of-absent}
use Rattle.repair_clauses.proofs.ListLemmas.{one_of}
use Rattle.report_text.specs.declared.line.Line.{Line}
use Rattle.report_text.specs.declared.line.Question.{Question}
use Rattle.report_text.specs.declared.line.Question.TheVariants as question
use Rattle.report_rules.specs.declared.place.Place.TheVariants.{InTry, AfterCore}
use Rattle.report_rules.specs.Inputs.{Input, selector_of}
use Rattle.report_rules.specs.Order.{place_of}
use Rattle.report_rules.specs.Told.{query_of}
use Rattle.report_rules.specs.Tries.{Asked, asked, question_of, assumed}
use Rattle.report_rules.specs.TryRules.{MayAssume}
use Rattle.report_rules.specs.Accepted.{AreRight}
use Rattle.report_laws.proofs.CauseLemmas.{listed_within}
use Rattle.report_laws.proofs.EasyLemmas.{try_assumes}
use Rattle.report_laws.proofs.PlaceLemmas.{asked_right, try_open}
use Rattle.report_laws.proofs.UniqueLists.{conflicts_one}

-- a priority of the input is over the conflicts of the input
pub over_same : (kb : Knowledge) (mode : Repairs) (p : Priority) (g : ConflictGraph) → IsPriorityOf kb mode p → AreConflictsOf kb g → IsOver p g
over_same kb mode p g of are =
    let one = conflicts_one kb p.own (own_facts g.clashes) p.couples (couples g.clashes) of.conflicts are.exact in
    record { facts = of.facts ∙ sym are.facts; own = one.0; couples = one.1 }

-- the facts of causes are facts of the table
pub causes_below : (kb : Knowledge) (variables : ℕ) (a : Asked) → ((cause : List ℕ) → Contains a.causes cause → (i : ℕ) → Contains cause i
    → i < length kb.facts)
    → length kb.facts ≤ variables → All (All (λ f. f < variables)) a.causes
causes_below kb variables a within size = All-of (All (λ f. f < variables)) a.causes
    (λ cause m. All-of (λ f. f < variables) cause (λ i n. let l = within cause m i n in omega arith))

-- what a try may assume is of the variables
may_assume_below : (kb : Knowledge) (variables : ℕ) (a : Asked) (q : Question) (assume : List ℕ)
    → ((cause : List ℕ) → Contains a.causes cause → (i : ℕ) → Contains cause i → i < length kb.facts)
    → selector_of kb a.candidate < variables → MayAssume kb a q assume → AreBelow variables assume
may_assume_below kb variables a question.Brave assume within size (cause, m, e) =
    subst (AreBelow variables) (sym e) (All-of (λ l. variable_of l < variables) (map present cause)
    (λ l n. let w = Contains-map_cases present cause l n in
    let b = within cause m w.0 w.1 in
    let v : variable_of l ≡ w.0 = ap variable_of (sym w.2) ∙ variable_of-present w.0 in
    omega arith))
may_assume_below kb variables a question.Iar assume within size (cause, i, m, n, e) =
    subst (AreBelow variables) (sym e) (All-of (λ l. variable_of l < variables) (absent i ∷ [])
    (λ l k. let b = within cause m i n in
    let v : variable_of l ≡ i = ap variable_of (one_of (absent i) l k) ∙ variable_of-absent i in
    omega arith))
may_assume_below kb variables a question.Ar assume within size e =
    subst (AreBelow variables) (sym e) (All-of (λ l. variable_of l < variables) (present (selector_of kb a.candidate) ∷ [])
    (λ l k. let v : variable_of l ≡ selector_of kb a.candidate = ap variable_of (one_of (present (selector_of kb a.candidate)) l k)
    ∙ variable_of-present (selector_of kb a.candidate) in
    omega arith))

-- in an open try after right lines the assumptions are of the variables, where the selector is
pub assumed_below : (input : Input) (before : List Line) (variables : ℕ) → AreRight input before
    → (place_of before ≡ InTry) ⊎ (place_of before ≡ AfterCore) → selector_of input.kb (asked before).candidate < variables
    → AreBelow variables (assumed before)
assumed_below input before variables right p size =
    may_assume_below input.kb variables (asked before) (question_of before) (assumed before)
    (listed_within input.kb (query_of input before) (asked before).tuple (asked before).causes
    (asked_right input before right (try_open (place_of before) p)).causes_are) size (try_assumes input before right p)
