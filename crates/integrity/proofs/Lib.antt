pub mod NodeCases
pub mod FirstCases
pub mod RecordCases
pub mod ChainCases
pub mod CheckCases
