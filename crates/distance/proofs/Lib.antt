pub mod Figured
pub mod Times
