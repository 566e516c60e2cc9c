pub mod Values
pub mod Unique
pub mod Hex
pub mod Line
