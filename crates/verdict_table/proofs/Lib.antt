mod LawLemmas
pub mod RowLemmas
pub mod WholeLemmas
