pub mod WholeInputs
pub mod WholeLines
pub mod WholeReports
pub mod WholeWriting
