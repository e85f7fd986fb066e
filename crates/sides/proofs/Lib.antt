pub mod CountLaws
mod NameCases
pub mod ChainCases
mod SearchCases
pub mod SharedLaws
