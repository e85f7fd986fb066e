pub mod Holds
pub mod Scans
