pub mod Moved
pub mod Length
pub mod Determined
pub mod Place
