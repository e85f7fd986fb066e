pub mod Layout
pub mod Heading
pub mod Fresh
pub mod Judging
pub mod Sound
pub mod Tables
pub mod Examples
