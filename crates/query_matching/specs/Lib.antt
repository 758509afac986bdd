pub mod Bindings
pub mod Extensions
pub mod Rows
pub mod Hits
