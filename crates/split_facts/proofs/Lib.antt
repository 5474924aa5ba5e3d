pub mod Splits
pub mod Demand3
pub mod Equal
pub mod Cases
pub mod Masked
