pub mod Chains
pub mod Counts
pub mod Names
pub mod Searches
