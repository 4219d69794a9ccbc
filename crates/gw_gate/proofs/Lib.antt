pub mod Bits
pub mod Handing
pub mod Keeping
pub mod Sums
pub mod Words
