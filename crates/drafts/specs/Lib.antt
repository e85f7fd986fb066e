pub mod Entries
pub mod Drafts
pub mod Wiping
pub mod Notes
pub mod Examples
