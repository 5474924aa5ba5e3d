pub mod MinMax
pub mod Pass
