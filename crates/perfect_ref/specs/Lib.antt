pub mod BreadthFirst
pub mod Code
pub mod Search
