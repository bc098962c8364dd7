pub mod Bytes
pub mod Text
pub mod Rules
pub mod Written
pub mod Program
pub mod Example
pub mod Faithful
pub mod Internal
