pub mod CycleWidening
pub mod NamedTuples
pub mod PreparedLemmas
