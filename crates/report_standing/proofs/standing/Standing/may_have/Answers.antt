use Rattle.std.proofs.Common.{ap, sym, ◌∙◌, refl, rules, arith}
use Rattle.std.proofs.lemmas.Bool.{false≢true}
use Rattle.std.proofs.lemmas.Bool.Decides.{nat_tests}
use Rattle.report_laws.specs.Standing.{Standing}
use Rattle.report_parts.proofs.OrderLemmas.{by_variable}
use Rattle.report_standing.proofs.standing.Standing.may_have.Goals as goal

pub returns-then-ascend_by_variable : goal.returns-then-ascend_by_variable
returns-then-ascend_by_variable c =
    let told = rw c.selector.ensures.exact at c.has_all.ensures.exact in
    let rises = (by_variable c.args.clause.now).0 (c.if-ascend_by_variable.ensures.exact.0 refl) in
    record {
      exact = (
        (λ t. record {
          counts = c.if-number-self.false ∙ ap (λ (s : Standing). s.learn_lines) c.self.view_is;
          in_budget = search rules;
          not_empty = grind (arith, nat_tests);
          ascending = rises.0;
          distinct = rises.1;
          literals = told.0 t;
        }),
        (λ w. told.1 w.literals),
      );
    }

pub returns-else-ascend_by_variable : goal.returns-else-ascend_by_variable
returns-else-ascend_by_variable c = record {
  exact = (
    (λ t. absurd (false≢true (sym c.if-ascend_by_variable.false ∙ t))),
    (λ w. c.ascend_by_variable.ensures.exact.1 ((by_variable c.args.clause.now).1 (w.ascending, w.distinct))),
  );
}
