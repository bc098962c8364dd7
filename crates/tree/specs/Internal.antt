pub mod Outcomes
pub mod Carried
pub mod Tally
pub mod Going
