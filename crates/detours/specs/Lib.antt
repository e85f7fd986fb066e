pub mod Searching
pub mod Judging
pub mod Finding
