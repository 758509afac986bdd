pub mod SlotLemmas
pub mod Contents
pub mod Changes
pub mod Ranking
