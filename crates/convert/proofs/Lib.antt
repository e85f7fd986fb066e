pub mod ReadingLaws
pub mod LoadingLaws
pub mod CopyLaws
pub mod AnswerLaws
pub mod ScanLaws
pub mod EditionLaws
