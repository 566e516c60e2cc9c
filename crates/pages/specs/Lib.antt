pub mod Search
pub mod Shown
