pub mod FinalLemmas
pub mod GatherLemmas
pub mod GroupLemmas
pub mod PartLemmas
pub mod PartsOfLists
pub mod SmallerLemmas
pub mod SupportLemmas
