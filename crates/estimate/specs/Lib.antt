pub mod Estimate
pub mod Source
