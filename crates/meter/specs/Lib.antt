pub mod Meter
pub mod Claims
