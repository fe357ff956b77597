pub mod Ends
pub mod ReadBand
pub mod ReadRow
pub mod ReadRuns
pub mod RowsRead
