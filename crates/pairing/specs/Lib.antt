pub mod Pairing
pub mod Counting
