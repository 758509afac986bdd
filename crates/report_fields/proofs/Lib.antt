pub mod AtomFacts
pub mod EscapeFacts
pub mod FieldFacts
pub mod Plain
