use Rattle.report_laws.proofs.ClosureLemmas.{support_is_match}
use Rattle.report_laws.proofs.laws.supports_are_matches.Goals as goal

pub returns : goal.returns
returns c kb q members closure tuple numbers = support_is_match kb q members closure tuple numbers
