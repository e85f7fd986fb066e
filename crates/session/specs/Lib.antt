pub mod Numbers
pub mod Session
pub mod Keywords
pub mod Program
pub mod Examples
pub mod WhyExamples
