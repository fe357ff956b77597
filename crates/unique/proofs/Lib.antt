pub mod BandPels
pub mod QCoder
pub mod Search
pub mod Unique
pub mod OneReader
pub mod Zeros
