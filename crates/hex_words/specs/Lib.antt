pub mod Words
pub mod Ops
