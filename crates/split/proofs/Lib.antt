pub mod Steps
pub mod Positive
pub mod Passed
pub mod Weighed
pub mod Determined
pub mod Place
