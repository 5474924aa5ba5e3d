pub mod Poly
pub mod Cells
pub mod Rest
pub mod Scaled
pub mod Facts
