pub mod Both
pub mod Cases
pub mod Tests
pub mod WritesLaws
pub mod SetsLaws
