pub mod LeavingLaws
pub mod InstanceLaws
pub mod InstanceTerms
