pub mod CoreLemmas
pub mod GrowthLemmas
pub mod MissingLemmas
pub mod SetLemmas
