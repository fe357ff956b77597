pub mod Growing
pub mod Leading
