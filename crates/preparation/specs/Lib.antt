pub mod Prepared
pub mod Refusals
