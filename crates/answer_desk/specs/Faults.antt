-- What a fault of a line, or of a search, is for the classification.
use Rattle.answer_desk.specs.declared.plan.ClassifyFault.{ClassifyFault}
use Rattle.answer_desk.specs.declared.plan.ClassifyFault.TheVariants as fault
use Rattle.report_text.specs.declared.report.LineFault.{LineFault}
use Rattle.report_text.specs.declared.report.LineFault.TheVariants as line_fault
use Rattle.cdcl_core.specs.declared.outcome.SolveFault.{SolveFault}
use Rattle.cdcl_core.specs.declared.outcome.SolveFault.TheVariants as solve_fault

abbrev pub of_line : LineFault → ClassifyFault
of_line line_fault.Failed = fault.Report
of_line line_fault.NoMemory = fault.NoMemory

abbrev pub of_solve : SolveFault → ClassifyFault
of_solve solve_fault.Log = fault.Report
of_solve solve_fault.NoMemory = fault.NoMemory
