pub mod Beside
pub mod EmptyDesk
pub mod Finding
pub mod Lines
pub mod Puts
