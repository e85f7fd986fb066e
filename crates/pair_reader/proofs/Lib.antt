pub mod StoringLaws
pub mod PairSteps
pub mod PairTurns
