pub mod Bytes
pub mod Export
pub mod Examples
