pub mod Bounds
pub mod Ends
pub mod Fetching
pub mod Inputs
pub mod Laws
pub mod Meaning
pub mod Refusals
pub mod Vocabulary
