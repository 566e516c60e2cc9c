pub mod Entries
pub mod Lanes
pub mod Offers
pub mod Relax
pub mod Trail
