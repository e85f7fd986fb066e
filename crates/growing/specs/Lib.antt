pub mod Moving
pub mod Growing
pub mod Clauses
pub mod Promises
pub mod Examples
