pub mod Engine
pub mod Coded
pub mod Matching
pub mod Followed
pub mod Verdict
