use Rattle.std.proofs.Common.{◌∙◌, ap, sym}
use Rattle.report_parts.specs.Codes.{code_of}
use Rattle.report_parts.proofs.CodeLemmas.{code_of-injective}
use Rattle.report_parts.proofs.codes.is_same.Goals as goal

pub returns : goal.returns
returns c =
    let l = c.deref.ensures.value ∙ c.in_ok-left.ensures in
    let r = c.deref-2.ensures.value ∙ c.in_ok-right.ensures in
    record {
      exact = (
        (λ t. code_of-injective c.args.left.now c.args.right.now (sym l ∙ c.are_equal.ensures.exact.0 t ∙ r)),
        (λ e. c.are_equal.ensures.exact.1 (l ∙ ap code_of e ∙ sym r)),
      );
    }
