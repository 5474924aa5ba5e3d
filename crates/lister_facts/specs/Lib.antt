pub mod ByBlocks
pub mod Held
pub mod Older
