pub mod Lists
pub mod Insert
pub mod Remove
pub mod Inserting
