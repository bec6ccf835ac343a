pub mod Terms
pub mod RowCalls
