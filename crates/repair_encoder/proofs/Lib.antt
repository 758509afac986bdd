pub mod BaseLemmas
pub mod FormLemmas
pub mod ListLemmas
pub mod SortedLemmas
pub mod TwinLemmas
pub mod WalkLemmas
