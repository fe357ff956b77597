pub mod Wrote
pub mod RowByRow
