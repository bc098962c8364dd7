pub mod Members
pub mod Tests
pub mod Exits
pub mod SameWord
pub mod FirstFault
pub mod Parts
pub mod KindNumbers
