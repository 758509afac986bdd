use Rattle.std.proofs.Common.{◌<◌, List, length, subst, arith}
use Rattle.std.proofs.lemmas.Bool.Decides.{nat_tests}
use Rattle.std.proofs.lemmas.Result.{IfOk-weaker}
use Rattle.cq_terms.specs.Query.{Query}
use Rattle.report_rules.specs.Inputs.{report_on}
use Rattle.report_standing.proofs.JoinLemmas.{joins_told}
use Rattle.report_standing.proofs.rules.cq.joins.Goals as goal

pub returns : goal.returns
returns c =
    let long : 0 < length c.members.result.now = grind (arith, nat_tests) in
    let some = subst (λ (ms : List Query). 0 < length ms) c.members.ensures.lent long in
    record {
      exact = λ names. IfOk-weaker c.is_new_result.result _ _
          (λ b w. joins_told (report_on c.args.kb.now names c.args.query.now) c.args.standing.now c.args.origin _ c.in-Some.block.now.members c.args.member.now
          c.args.step
          (c.in-Some-step.place, c.in-Some-step.step) b c.in-Some.ensures.exact c.in-Some-step.is some (rw c.axioms.ensures.lent at w))
          c.is_new_result.ensures.exact;
    }
