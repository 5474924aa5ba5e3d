pub mod Cases
pub mod Bits
pub mod Sums
pub mod Shares
pub mod Order
pub mod Nearest
pub mod Even
pub mod Zero
