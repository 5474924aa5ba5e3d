pub mod Passing
pub mod Cases
pub mod Determined
pub mod Place
pub mod Shown
pub mod Absent
pub mod Searched
