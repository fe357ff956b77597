pub mod Left
pub mod Refusing
pub mod Served
pub mod StandingOn
