pub mod Tables
pub mod Written
pub mod Reading
pub mod Slices
