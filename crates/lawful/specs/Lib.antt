pub mod Highest
pub mod Each
pub mod Every
