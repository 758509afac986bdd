use Rattle.report_laws.proofs.LearningReport.{learning_reports}
use Rattle.report_laws.proofs.examples.learning_reports.Goals as goal

pub returns : goal.returns
returns c = learning_reports
