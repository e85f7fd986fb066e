pub mod Parts
pub mod Segments
pub mod Hands
pub mod Examples
