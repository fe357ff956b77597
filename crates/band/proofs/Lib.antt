pub mod One
pub mod Worked
pub mod EveryBand
pub mod Revisits
