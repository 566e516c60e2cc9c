pub mod Flat
pub mod Laws
pub mod Crossings
pub mod Links
