pub mod Packing
pub mod Padding
pub mod Sliding
pub mod White
pub mod Words
