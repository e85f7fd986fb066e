pub mod PassLaws
pub mod LoadCases
pub mod PlaceCases
pub mod CompareCases
pub mod NameCases
pub mod TableLaws
