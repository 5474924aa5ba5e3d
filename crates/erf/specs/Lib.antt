pub mod Erf
