pub mod Bound
pub mod Weights
pub mod Calls
pub mod Cases
