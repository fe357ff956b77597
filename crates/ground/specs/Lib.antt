pub mod Options
