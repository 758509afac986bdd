use Rattle.std.proofs.Common.{◌≡◌, ◌<◌, List, ℕ, [], All, map, sym, subst, ap, ◌∙◌, Contains, get_or, take, rules}
use Rattle.std.proofs.lemmas.List.{get_or_default, map_more}
use Rattle.std.proofs.lemmas.List.Elements.{All-contains, Contains-get_or}
use Rattle.cq_terms.specs.Lists.{IsAscending}
use Rattle.cdcl_core.specs.State.{AddsClause}
use Rattle.clause_meaning.specs.Literals.{AreBelow}
use Rattle.repair_clauses.specs.CauseClauses.{cause_clause}
use Rattle.answer_desk.specs.Loading.{Loads, AreLoadable}
use Rattle.answer_desk.proofs.LoadLemmas.{Loads-more, cause_clause_below}
use Rattle.answer_desk.proofs.work.Work.load_causes.Goals as goal

pub cause_clause-requires-clause-ascending : goal.cause_clause-requires-clause-ascending
cause_clause-requires-clause-ascending c =
    let k = c.loop-cause.cause-index in
    let same = c.as_slice.ensures.lent ∙ (c.cause-item.is ∙ get_or_default c.args.causes.now k _ [] c.loop-cause-test.true) in
    subst IsAscending (sym same)
    (All-contains (λ cause. IsAscending cause × All (λ f. f < c.args.selector) cause) c.args.causes.now _ c.requires.causes
    (Contains-get_or c.args.causes.now k [] c.loop-cause-test.true)).0

pub cause_clause-requires-clause-below : goal.cause_clause-requires-clause-below
cause_clause-requires-clause-below c =
    let k = c.loop-cause.cause-index in
    let same = c.as_slice.ensures.lent ∙ (c.cause-item.is ∙ get_or_default c.args.causes.now k _ [] c.loop-cause-test.true) in
    subst (λ (xs : List ℕ). All (λ f. f < c.args.selector) xs) (sym same)
    (All-contains (λ cause. IsAscending cause × All (λ f. f < c.args.selector) cause) c.args.causes.now _ c.requires.causes
    (Contains-get_or c.args.causes.now k [] c.loop-cause-test.true)).1

pub add_clause-requires-clause-in_range : goal.add_clause-requires-clause-in_range
add_clause-requires-clause-in_range c =
    let k = c.loop-cause.cause-index in
    let same = c.as_slice.ensures.lent ∙ (c.cause-item.is ∙ get_or_default c.args.causes.now k _ [] c.loop-cause-test.true) in
    let loads = c.loop-cause.invariant.0 in
    let here = (All-contains (λ cause. IsAscending cause × All (λ f. f < c.args.selector) cause) c.args.causes.now _ c.requires.causes
    (Contains-get_or c.args.causes.now k [] c.loop-cause-test.true)).1 in
    subst (λ (n : ℕ). AreBelow n c.as_slice-in-loop-cause.result.now) (sym loads.variables)
    (subst (λ (xs : List ℕ). AreBelow c.args.self.now.solver.variables xs) (sym (c.as_slice-in-loop-cause.ensures.lent ∙ c.in_ok-clause.ensures.exact))
    (cause_clause_below c.args.self.now.solver.variables c.args.selector c.as_slice.result.now c.requires.variables
    (subst (λ (xs : List ℕ). All (λ f. f < c.args.selector) xs) (sym same) here)))

pub loop-cause-preserved : goal.loop-cause-preserved
loop-cause-preserved c =
    let k = c.loop-cause.cause-index in
    let same = c.as_slice.ensures.lent ∙ (c.cause-item.is ∙ get_or_default c.args.causes.now k _ [] c.loop-cause-test.true) in
    let clause : c.as_slice-in-loop-cause.result.now ≡ cause_clause c.args.selector (get_or c.args.causes.now k []) =
    c.as_slice-in-loop-cause.ensures.lent ∙ (c.in_ok-clause.ensures.exact ∙ ap (cause_clause c.args.selector) same) in (
      subst (λ (xs : List (List ℕ)). Loads xs c.args.self.now.solver c.add_clause.new.self)
          (sym (map_more (cause_clause c.args.selector) c.args.causes.now k [] c.loop-cause-test.true))
          (Loads-more _ _ c.args.self.now.solver c.loop-cause.self.solver c.add_clause.new.self
          (subst IsAscending (ap (cause_clause c.args.selector) same) (subst IsAscending c.in_ok-clause.ensures.exact c.in_ok-clause.ensures.ascending))
          c.loop-cause.invariant.0 (subst (λ (xs : List ℕ). AddsClause c.loop-cause.self.solver c.add_clause.new.self xs) clause
          c.in_ok-add_clause.ensures.exact)),
      search rules,
    )
