pub mod Faults
pub mod Grammar
pub mod Numbering
pub mod Parts
pub mod Queries
pub mod Steps
pub mod Tokens
