pub mod Listing
pub mod Steps
pub mod Clauses
pub mod Promises
pub mod Worked
