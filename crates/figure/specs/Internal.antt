pub mod Steps
pub mod Directions
pub mod Gathered
pub mod Ceiling
