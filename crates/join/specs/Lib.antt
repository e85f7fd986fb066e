pub mod Entering
pub mod Joining
pub mod Trial
