pub mod MovingLaws
pub mod GrowingCases
pub mod Regions
pub mod Rearranging
pub mod GrownViews
pub mod Resized
pub mod Theorems
pub mod Larger
