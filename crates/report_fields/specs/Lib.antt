pub mod Atoms
pub mod Fields
