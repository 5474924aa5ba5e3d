pub mod Arms
pub mod Determined
pub mod Place
