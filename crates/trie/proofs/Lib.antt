pub mod SearchLaws
pub mod PathLaws
pub mod AppendLaws
pub mod WalkLaws
pub mod IndexLaws
pub mod TurnsLaws
pub mod EnteredLaws
pub mod StayLaws
pub mod BuildLaws
pub mod LedgerLaws
pub mod SlotLaws
pub mod SearchCases
mod TurnCases
pub mod WalkCases
pub mod PathCases
mod AppendCases
