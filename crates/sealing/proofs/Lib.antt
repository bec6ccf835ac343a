pub mod Faultless
pub mod Fitting
pub mod Deciding
pub mod FirstFaults
