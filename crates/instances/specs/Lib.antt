pub mod Leaving
pub mod Instances
