use Rattle.std.proofs.Common.{◌≡◌, ℕ, Some, slice_get, subst, ap, ◌∙◌}
use Rattle.std.proofs.lemmas.Result.{IfOk-weaker}
use Rattle.report_standing.proofs.AskLemmas.{ask_tells}
use Rattle.report_parts.proofs.ListFacts.{got}
use Rattle.report_standing.proofs.rules.ask.is_right_ask.Goals as goal

pub returns : goal.returns
returns c =
    let at : slice_get c.args.candidates.now c.answers-2.result ≡ Some c.in-Some.next.now =
    got c.args.candidates.now c.answers-2.result c.in-Some.next.now c.in-Some.ensures.lookup.1 c.in-Some.ensures.lookup.3.0 in
    record {
      exact = λ kb e. IfOk-weaker c.are_matched.result _ _
          (λ b w. ask_tells kb c.args.plain.now c.args.candidates.now c.args.standing.now c.args.candidate c.args.tuple.now c.args.causes.now
          c.args.members.now b e
          (c.if-candidate-answers.false ∙ c.answers.ensures.exact)
          (subst (λ (n : ℕ). slice_get c.args.candidates.now n ≡ Some c.in-Some.next.now) c.answers-2.ensures.exact at
          ∙ ap Some (c.has.ensures.exact.0 c.if-not-has.false))
          (rw (c.as_slice.ensures.lent, c.as_slice-2.ensures.lent, c.as_slice-3.ensures.lent) at w))
          c.are_matched.ensures.exact;
    }
