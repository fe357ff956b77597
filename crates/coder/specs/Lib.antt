pub mod Writing
pub mod Page
pub mod Reading
