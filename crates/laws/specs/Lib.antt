pub mod Order
pub mod Tests
pub mod Lists
