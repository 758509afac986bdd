pub mod Forms
pub mod Twins
pub mod Walks
