pub mod BlockLemmas
pub mod CodeLemmas
pub mod ListFacts
pub mod MoveLemmas
pub mod OrderLemmas
pub mod SettledLemmas
pub mod TestLemmas
