pub mod CodeLemmas
pub mod SearchLemmas
pub mod Shorter
pub mod TurnLemmas
