use Rattle.report_laws.proofs.SettlingLemmas.{tests_tell}
use Rattle.report_laws.proofs.laws.tests_tell_evidence.Goals as goal

pub returns : goal.returns
returns c = tests_tell
