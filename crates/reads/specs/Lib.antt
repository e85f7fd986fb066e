pub mod Reading
pub mod Pairs
