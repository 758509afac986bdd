pub mod BaseClauses
pub mod CauseClauses
pub mod Components
pub mod Laws
