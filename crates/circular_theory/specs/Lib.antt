pub mod Bearings
pub mod Laws
pub mod Rows
