-- Why a table was not written whole.
use Rattle.std.specs.Prelude.{Bool, true, false, Result, Err}
use Rattle.report_text.specs.declared.report.LineFault.{LineFault}
use Rattle.report_text.specs.declared.report.LineFault.TheVariants as line_fault
use Rattle.verdict_table.specs.declared.fault.TableFault.{TableFault}
use Rattle.verdict_table.specs.declared.fault.TableFault.TheVariants as fault

-- the call answered that the sink failed
abbrev pub has_failed : {T : Type 0} → Result T TableFault → Bool
has_failed (Err fault.Failed) = true
has_failed _ = false

-- the fault of a line's record as one of the table
abbrev pub fault_of : LineFault → TableFault
fault_of line_fault.Failed = fault.Failed
fault_of line_fault.NoMemory = fault.NoMemory
