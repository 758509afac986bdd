pub mod Aims
pub mod FreeCauses
pub mod Logging
pub mod LoggingLaws
pub mod Ranges
pub mod Reached
pub mod Sets
pub mod Shown
