pub mod Consts
