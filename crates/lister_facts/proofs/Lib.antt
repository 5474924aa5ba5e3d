pub mod Judged
pub mod Blocks
pub mod Listed
pub mod Held
pub mod Older
