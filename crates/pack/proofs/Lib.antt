pub mod Packing
pub mod Determined
