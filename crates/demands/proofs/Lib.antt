pub mod AnyOrder
pub mod Certain
pub mod Damaged
pub mod Demand1
pub mod Demand2
pub mod Ran
pub mod WorkedRun
pub mod Revisits
