use Rattle.std.proofs.Common.{refl, sym, subst, ap, ◌∙◌}
use Rattle.std.proofs.lemmas.Bool.{OnTrue_at}
use Rattle.rup_check.specs.Slots.{Stock}
use Rattle.rup_check.specs.Steps.{RestOrListed}
use Rattle.rup_check.proofs.StockLemmas.{shown-push}
use Rattle.rup_check.proofs.Base.{AreReached, reached_push, rest_kept, rest_push}
use Rattle.rup_check.proofs.checker.Checker.add.Goals as goal

pub invariant_of-self-in_err-add : goal.invariant_of-self-in_err-add
invariant_of-self-in_err-add c =
    let kept = c.self.invariant in
    let early = c.self.inside.early in
    let slots = c.self.inside.clauses.slots in
    let base = c.self.inside.marks.literals in
    let new = c.list_where.new.late in
    let is = c.in_err-add.ensures.unchanged in
    record {
      same_variables = kept.same_variables ∙ sym (ap (λ (s : Stock). s.variables) is);
      reached = subst (λ (s : Stock). AreReached early s.slots base) (sym is) kept.reached;
      consistent = kept.consistent;
      unmarked = kept.unmarked;
      rest = λ e. subst (λ (s : Stock). RestOrListed s.slots new base) (sym is)
          (rest_kept slots c.self.inside.late new base c.list_where.ensures.kept (kept.rest e));
    }

pub invariant_of-self-2 : goal.invariant_of-self-2
invariant_of-self-2 c =
    let kept = c.self.invariant in
    let early = c.self.inside.early in
    let slots = c.self.inside.clauses.slots in
    let base = c.self.inside.marks.literals in
    let clause = c.args.clause.now in
    let new = c.list_where.new.late in
    let is = c.in_ok-add.ensures.exact in
    record {
      same_variables = kept.same_variables ∙ sym (ap (λ (s : Stock). s.variables) is);
      reached = subst (λ (s : Stock). AreReached early s.slots base) (sym is) (reached_push early slots clause base kept.reached);
      consistent = kept.consistent;
      unmarked = kept.unmarked;
      rest = λ e. subst (λ (s : Stock). RestOrListed s.slots new base) (sym is)
          (rest_push slots clause c.self.inside.late new base c.len-number.result c.len-number.ensures c.list_where.ensures.kept (kept.rest e)
          (OnTrue_at e c.in_ok-list_where.ensures.listed));
    }

pub returns-clause-exact : goal.returns-clause-exact
returns-clause-exact c =
    rw (c.in_ok-add.ensures.exact, ← c.self.view_is) (shown-push c.self.inside.clauses.variables c.self.inside.clauses.slots c.args.clause.now _ refl)
