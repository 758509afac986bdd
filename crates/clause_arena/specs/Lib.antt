pub mod State
pub mod Walk
pub mod Slots
pub mod Shown
