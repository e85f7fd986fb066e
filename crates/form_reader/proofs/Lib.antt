pub mod FormSteps
pub mod FormTurns
