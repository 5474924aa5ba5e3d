pub mod Tanh
