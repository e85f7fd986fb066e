pub mod AlongPaths
pub mod Tasks
