pub mod Model
pub mod Sealing
pub mod Rows
pub mod WellFormed
