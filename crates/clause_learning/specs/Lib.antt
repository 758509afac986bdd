pub mod Levels
pub mod Searching
pub mod Lessons
pub mod Resolving
pub mod Marking
pub mod Unmarked
pub mod Trials
