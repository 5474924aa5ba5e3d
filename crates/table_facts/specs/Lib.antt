pub mod Trips
pub mod Limits
pub mod Forms
pub mod Moves
