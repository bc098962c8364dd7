pub mod Faithful
pub mod Answers
pub mod Rows
pub mod Internal
