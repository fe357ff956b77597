pub mod Pairs
pub mod Never
