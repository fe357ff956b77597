pub mod Value
pub mod Sight
