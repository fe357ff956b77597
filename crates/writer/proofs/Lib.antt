pub mod EitherEngine
pub mod LastRow
pub mod RowByRow
