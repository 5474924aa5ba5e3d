pub mod Fold
pub mod Determined
pub mod Empty
pub mod Place
pub mod Shows
