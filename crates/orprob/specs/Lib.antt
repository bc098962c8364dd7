pub mod Pairs
pub mod Combination
pub mod Pinned
pub mod Promise
pub mod Internal
