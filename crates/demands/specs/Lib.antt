pub mod Demand1
pub mod Demand2
pub mod Damaged
pub mod Ran
pub mod Revisits
