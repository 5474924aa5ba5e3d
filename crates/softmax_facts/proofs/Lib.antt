pub mod Sum
pub mod Reciprocal
pub mod Facts
pub mod Called
pub mod Flush
