pub mod Lists
pub mod Maps
pub mod Books
pub mod Read
pub mod Given
