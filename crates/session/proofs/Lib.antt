pub mod LineLaws
pub mod Theorem
pub mod ProgramLaws
