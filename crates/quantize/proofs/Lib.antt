pub mod Moved
pub mod Nearest
pub mod Cases
pub mod Determined
pub mod Place
