pub mod Domain
pub mod Maximum
pub mod Result
pub mod Determined
pub mod Place
