use Rattle.std.proofs.Common.{[]}
use Rattle.report_rules.specs.Inputs.{report_on}
use Rattle.report_laws.proofs.BreakingLemmas.{broken_not_accepted, broken_once}
use Rattle.report_laws.proofs.laws.broken_once.Goals as goal

pub returns : goal.returns
returns c kb names q pieces n r b = (
  (λ a. broken_not_accepted (report_on kb names q) pieces [] n r b a),
  (λ m s d. broken_once (report_on kb names q) pieces [] n m r s b d),
)
