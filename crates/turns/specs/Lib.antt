pub mod Service
pub mod Serial
pub mod Base
pub mod Order
pub mod Strike
pub mod Own
