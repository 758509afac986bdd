pub mod Hits
pub mod Endings
pub mod Places
