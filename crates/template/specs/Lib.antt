pub mod Pels
pub mod Window
pub mod Packing
pub mod Words
pub mod White
