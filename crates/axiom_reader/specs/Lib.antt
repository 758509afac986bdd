pub mod Axioms
pub mod Lines
pub mod Meaning
pub mod Name
pub mod Numbering
pub mod Parts
pub mod Reading
