pub mod Recoding
pub mod Carrying
pub mod Copying
pub mod Promises
pub mod Examples
pub mod Quick
pub mod Needs
pub mod Clauses
