use Rattle.std.proofs.Common.{◌≡◌, ◌∙◌, sym, ap, [], length, arith}
use Rattle.std.proofs.lemmas.Bool.Decides.{nat_tests}
use Rattle.verdict_table.specs.Whole.{bad_from}
use Rattle.verdict_table.proofs.WholeLemmas.{at_end, empty_list}
use Rattle.verdict_table.proofs.bad_line.bad_line.Goals as goal

pub returns-then-ended-2 : goal.returns-then-ended-2
returns-then-ended-2 c =
    let none : length c.loop-rest.rest.now ≡ 0 = grind (arith, nat_tests) in record {
      exact = sym (at_end c.args.report.now c.loop-rest.rest.now c.loop-rest.number c.loop-rest.ended c.loop-rest.invariant
          (empty_list c.loop-rest.rest.now none)
          ∙ ap (λ ended. bad_from c.loop-rest.number ended []) c.if-ended-2.true);
    }

pub returns-else-ended-2 : goal.returns-else-ended-2
returns-else-ended-2 c =
    let none : length c.loop-rest.rest.now ≡ 0 = grind (arith, nat_tests) in record {
      exact = sym (at_end c.args.report.now c.loop-rest.rest.now c.loop-rest.number c.loop-rest.ended c.loop-rest.invariant
          (empty_list c.loop-rest.rest.now none)
          ∙ ap (λ ended. bad_from c.loop-rest.number ended []) c.if-ended-2.false);
    }
