pub mod LoggingLemmas
pub mod RangeLemmas
pub mod SetLemmas
