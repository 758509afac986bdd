pub mod Closing
pub mod Derivation
pub mod Moves
pub mod Ordered
pub mod Steps
pub mod Unifying
