pub mod TokenCases
pub mod GiveCases
pub mod StateCases
pub mod WriteCases
pub mod DecideCases
