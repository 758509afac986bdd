pub mod KeyedFactLemmas
pub mod HeadLemmas
pub mod EndingLemmas
pub mod ExactlyLemmas
pub mod CandidateLemmas
pub mod Final
