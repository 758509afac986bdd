use Rattle.std.proofs.Common.{refl, arith}
use Rattle.report_parts.proofs.ListFacts.{same_at}
use Rattle.plain_finding.proofs.candidate.are_equal_lists.Goals as goal

pub returns : goal.returns
returns c = record {
  exact = (
    (λ t. same_at c.args.left.now c.args.right.now c.if-left-right.false (λ k d l. c.loop-i.invariant k d (omega arith))),
    (λ e. refl),
  );
}
