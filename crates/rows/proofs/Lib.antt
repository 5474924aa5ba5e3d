pub mod Failing
pub mod Row
