pub mod Following
pub mod Kinds
pub mod Reading
pub mod Room
pub mod Saying
pub mod State
pub mod Steps
