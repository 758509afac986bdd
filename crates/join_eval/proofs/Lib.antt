pub mod CandidateLemmas
pub mod Final
