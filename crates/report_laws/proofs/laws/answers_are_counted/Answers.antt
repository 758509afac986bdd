use Rattle.report_laws.proofs.SummaryLemmas.{answers_counted}
use Rattle.report_laws.proofs.laws.answers_are_counted.Goals as goal

pub returns : goal.returns
returns c input before right acyclic q test tells = answers_counted input before right acyclic q test tells
