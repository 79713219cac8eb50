pub mod Lists
pub mod RowLaws
pub mod ColumnLaws
pub mod WordRows
