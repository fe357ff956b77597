pub mod Still
pub mod Views
