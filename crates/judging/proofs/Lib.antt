pub mod Named
pub mod Fed
