pub mod PairTests
pub mod Joined
pub mod ExactOr
pub mod Order
pub mod Enclosure
pub mod Pinned
mod Operands
mod Turns
pub mod Promising
