pub mod FieldsLaws
pub mod DigitsLaws
pub mod CuttingLaws
