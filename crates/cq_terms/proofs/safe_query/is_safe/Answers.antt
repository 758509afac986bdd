use Rattle.std.proofs.Common.{◌∙◌, sym}
use Rattle.cq_terms.proofs.SafeFacts.{safe_by_tests}
use Rattle.cq_terms.proofs.safe_query.is_safe.Goals as goal

pub returns-clause-safe : goal.returns-clause-safe
returns-clause-safe c = safe_by_tests c.args.head.now c.args.body.now c.are_meant.result (sym c.is_empty.ensures ∙ c.if-is_empty.false)
    c.are_meant.ensures.exact
