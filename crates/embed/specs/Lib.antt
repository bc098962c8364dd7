pub mod Exports
pub mod Subsystems
