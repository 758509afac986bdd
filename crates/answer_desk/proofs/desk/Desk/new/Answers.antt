use Rattle.std.proofs.Common.{◌≡◌, ◌<◌, ◌≤◌, ◌+◌, ◌↔◌, ℕ, List, All, Contains, ap, sym, subst, arith}
use Rattle.cq_terms.specs.Conflicts.{AreInConflict}
use Rattle.repair_clauses.specs.BaseClauses.{IsBaseClause}
use Rattle.repair_clauses.specs.Components.{IsClosedUnder}
use Rattle.cdcl_core.specs.State.{State}
use Rattle.answer_desk.specs.Loading.{Loads, AreAddable}
use Rattle.answer_evidence.specs.Ranges.{IsRange}
use Rattle.answer_desk.proofs.LoadLemmas.{AreAddable-from_forms}
use Rattle.answer_desk.proofs.ReadyLemmas.{all_known, all_closed, begun_ready}
use Rattle.answer_desk.proofs.desk.Desk.new.Goals as goal

pub base_clauses-requires-clause-known : goal.base_clauses-requires-clause-known
base_clauses-requires-clause-known c =
    let same = c.requires.may_open.facts_are in
    let below : c.args.facts ≤ c.args.conflicts.now.facts = omega (arith, same) in
    subst (λ (xs : List ℕ). All (λ f. f < c.args.conflicts.now.facts) xs) (sym c.as_slice.ensures.lent)
    (all_known c.args.facts c.args.conflicts.now.facts c.in_ok-all.all c.in_ok-all.ensures.exact below)

pub base_clauses-requires-clause-closed : goal.base_clauses-requires-clause-closed
base_clauses-requires-clause-closed c =
    subst (λ (xs : List ℕ). IsClosedUnder (AreInConflict c.args.conflicts.now.clashes) (Contains xs)) (sym c.as_slice.ensures.lent)
    (all_closed c.args.better.now c.args.conflicts.now c.in_ok-all.all c.linear-order.ensures.kept c.requires.may_open.over
    (subst (λ (n : ℕ). IsRange 0 n c.in_ok-all.all) c.requires.may_open.facts_are c.in_ok-all.ensures.exact))

pub add_each-requires : goal.add_each-requires
add_each-requires c =
    let has : c.in_ok-solver.solver.variables ≡ c.args.facts + c.args.selectors = ap (λ (s : State). s.variables) c.in_ok-solver.ensures.exact in
    let below : c.args.facts ≤ c.in_ok-solver.solver.variables = omega (arith, has) in
    record {
      addable = subst (AreAddable c.in_ok-solver.solver.variables) (sym c.as_slice-2.ensures.lent)
          (AreAddable-from_forms c.in_ok-solver.solver.variables c.as_slice.result.now c.in_ok-clauses.clauses
          (subst (λ (xs : List ℕ). All (λ f. f < c.in_ok-solver.solver.variables) xs) (sym c.as_slice.ensures.lent)
          (all_known c.args.facts c.in_ok-solver.solver.variables c.in_ok-all.all c.in_ok-all.ensures.exact below)) c.in_ok-clauses.ensures.form);
    }

pub invariant_of-result : goal.invariant_of-result
invariant_of-result c = λ _. begun_ready c.args.conflicts.now c.args.better.now c.args.plan.now c.args.facts c.args.selectors c.in_ok-all.all
    c.in_ok-clauses.clauses c.add_each.new.solver c.requires.may_open c.in_ok-all.ensures.exact
    (subst (λ (xs : List ℕ). (d : List ℕ) → Contains c.in_ok-clauses.clauses d ↔ IsBaseClause c.args.better.now (Contains xs) d)
    c.as_slice.ensures.lent c.in_ok-clauses.ensures.exact)
    (subst (λ (s : State). Loads c.in_ok-clauses.clauses s c.add_each.new.solver) c.in_ok-solver.ensures.exact
    (subst (λ (xs : List (List ℕ)). Loads xs c.in_ok-solver.solver c.add_each.new.solver) c.as_slice-2.ensures.lent c.in_ok-add_each.ensures.exact))
