pub mod PathCases
pub mod WorthCases
pub mod AlongCases
