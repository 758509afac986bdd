pub mod Entries
pub mod TableLemmas
pub mod ValueLemmas
pub mod LevelLemmas
pub mod Fitting
pub mod LastValues
pub mod Passes
pub mod Picking
