pub mod Model
pub mod Words
pub mod Kinds
pub mod Faults
pub mod Answer
pub mod Refusal
pub mod Internal
