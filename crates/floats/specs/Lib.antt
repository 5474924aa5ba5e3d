pub mod Words
pub mod Values
pub mod Floats
pub mod Fraction
pub mod Units
pub mod Each
pub mod Between
