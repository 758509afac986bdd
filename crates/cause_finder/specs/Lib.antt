pub mod Causes
pub mod Groups
pub mod Smaller
pub mod Supports
