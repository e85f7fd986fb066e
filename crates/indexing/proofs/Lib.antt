mod NodeCases
pub mod EnterCases
mod FillCases
mod BuildCases
