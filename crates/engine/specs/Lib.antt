pub mod Engine
pub mod Coded
pub mod Followed
