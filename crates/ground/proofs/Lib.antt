pub mod Bools
pub mod Options
pub mod Powers
pub mod Tables
pub mod Tests
