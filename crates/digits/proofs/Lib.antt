pub mod Places
pub mod Written
pub mod Determined
