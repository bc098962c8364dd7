pub mod Valid
pub mod Parts
