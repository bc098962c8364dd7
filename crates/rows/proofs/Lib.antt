pub mod RowTotals
pub mod RowNames
pub mod RowsStored
