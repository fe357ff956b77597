pub mod Each
pub mod HighestByte
pub mod Every
