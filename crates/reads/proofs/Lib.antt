pub mod ReadsCases
pub mod ReadsInstance
pub mod ReadsLaws
