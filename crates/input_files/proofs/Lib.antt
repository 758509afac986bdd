pub mod EndLemmas
pub mod FileLemmas
pub mod LawLemmas
pub mod OnceLemmas
pub mod OneEndLemmas
pub mod SayLemmas
pub mod StopLemmas
