use Rattle.std.proofs.Common.{◌<◌, ◌≤◌, ◌+◌, ◌^◌, ℕ, List, map, sym, subst, arith}
use Rattle.repair_clauses.specs.CauseClauses.{cause_clause}
use Rattle.answer_desk.specs.Loading.{AreLoadable, Loads}
use Rattle.answer_desk.specs.Openings.{IsOpen}
use Rattle.answer_evidence.specs.Reached.{IsScopeWith}
use Rattle.answer_evidence.specs.Shown.{ShowsNothing}
use Rattle.answer_desk.proofs.OpenLemmas.{causes_loadable, cut_nothing, IsOpen-loaded}
use Rattle.answer_desk.proofs.work.Work.open.Goals as goal

pub load_causes-requires-clause-causes : goal.load_causes-requires-clause-causes
load_causes-requires-clause-causes g c =
    let same = c.facts.ensures.exact in
    let behind : c.args.self.now.conflicts.now.facts ≤ c.facts.result + c.args.number = omega (arith, same) in
    subst (AreLoadable (c.facts.result + c.args.number)) (sym c.as_slice-causes.ensures.lent)
    (causes_loadable c.args.self.now.better.now c.args.self.now.conflicts.now (c.facts.result + c.args.number) c.args.candidate.now.causes
    c.requires.over behind c.requires.causes)

pub returns-clause-open : goal.returns-clause-open
returns-clause-open g c =
    let same = c.facts.ensures.exact in
    let few_are = c.requires.few in
    let variables_are = c.requires.variables in
    let behind : c.args.self.now.conflicts.now.facts ≤ c.facts.result + c.args.number = omega (arith, same) in
    let few : c.facts.result + c.args.number < 2 ^ 31 = omega (arith, same, few_are) in
    let variables : c.facts.result + c.args.number < c.args.self.now.solver.variables = omega (arith, same, variables_are) in
    subst (λ w. IsOpen w.conflicts.now w.better.now w.solver
    (record { selector = c.facts.result + c.args.number; scope = c.in_ok-scope.scope; first_core = w.cores; evidence = c.in_ok-evidence.evidence })
    c.args.candidate.now.causes) (sym c.load_causes.ensures.only)
    (IsOpen-loaded c.args.self.now.better.now c.args.self.now.conflicts.now
    (record {
      selector = c.facts.result + c.args.number;
      scope = c.in_ok-scope.scope;
      first_core = c.args.self.now.cores;
      evidence = c.in_ok-evidence.evidence;
    })
    c.args.candidate.now.causes c.args.self.now.solver c.load_causes.new.self.solver c.requires.over c.linear-order.ensures.kept c.requires.causes
    behind few variables
    (subst (λ (cs : List (List ℕ)). IsScopeWith c.args.self.now.conflicts.now cs (c.facts.result + c.args.number) c.in_ok-scope.scope.items)
    c.as_slice-causes.ensures.lent c.in_ok-scope.ensures.exact)
    c.requires.base c.requires.apart
    (subst (λ (cs : List (List ℕ)). Loads (map (cause_clause (c.facts.result + c.args.number)) cs) c.args.self.now.solver c.load_causes.new.self.solver)
    c.as_slice-causes.ensures.lent c.in_ok-load_causes.ensures.exact)
    (cut_nothing c.args.candidate.now.causes c.in_ok-evidence.evidence
    (subst (λ (cs : List (List ℕ)). ShowsNothing cs c.in_ok-evidence.evidence) c.as_slice-causes.ensures.lent c.in_ok-evidence.ensures.exact)))
