pub mod Numbers
pub mod Places
pub mod Gathered
pub mod Indexed
