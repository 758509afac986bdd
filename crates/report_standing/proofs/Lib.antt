pub mod AskLemmas
pub mod ClosedLemmas
pub mod DoneLemmas
pub mod EasyLemmas
pub mod JoinLemmas
pub mod LearnLemmas
