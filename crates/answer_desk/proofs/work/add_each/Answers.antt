use Rattle.std.proofs.Common.{List, ℕ, [], sym, subst, ◌∙◌}
use Rattle.std.proofs.lemmas.List.{take_more, get_or_default}
use Rattle.std.proofs.lemmas.List.Elements.{All-contains, Contains-get_or}
use Rattle.cdcl_core.specs.State.{AddsClause}
use Rattle.answer_desk.specs.Loading.{Loads, IsAddable}
use Rattle.answer_desk.proofs.LoadLemmas.{Loads-more}
use Rattle.answer_desk.proofs.work.add_each.Goals as goal

pub loop-clause-preserved : goal.loop-clause-preserved
loop-clause-preserved c =
    let k = c.loop-clause.clause-index in
    let same = c.as_slice.ensures.lent ∙ (c.clause-item.is ∙ get_or_default c.args.clauses.now k _ [] c.loop-clause-test.true) in
    let here = All-contains (IsAddable c.args.solver.now.variables) c.args.clauses.now _ c.requires.addable
    (Contains-get_or c.args.clauses.now k [] c.loop-clause-test.true) in
    subst (λ (xs : List (List ℕ)). Loads xs c.args.solver.now c.add_clause.new.self) (sym (take_more c.args.clauses.now k [] c.loop-clause-test.true))
    (Loads-more _ _ c.args.solver.now c.loop-clause.solver c.add_clause.new.self here.ascending c.loop-clause.invariant
    (subst (λ (xs : List ℕ). AddsClause c.loop-clause.solver c.add_clause.new.self xs) same c.in_ok-add_clause.ensures.exact))
