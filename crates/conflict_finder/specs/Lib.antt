pub mod Finding
pub mod FirstShown
pub mod Images
