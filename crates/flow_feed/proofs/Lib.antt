pub mod Counted
pub mod RecordsGrow
pub mod RowsHave
