pub mod AnyEngine
pub mod QEngine
pub mod TopEngine
pub mod WrittenRow
pub mod WrittenRuns
