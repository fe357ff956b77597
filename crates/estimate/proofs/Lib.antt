pub mod Source
pub mod LawfulEntries
