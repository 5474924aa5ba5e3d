pub mod Cases
pub mod Shape
pub mod Bytes
pub mod Storing
pub mod Totals
pub mod Given
pub mod Tests
pub mod Cut
