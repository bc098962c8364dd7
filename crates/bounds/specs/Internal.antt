pub mod Marks
pub mod Walk
pub mod Measured
