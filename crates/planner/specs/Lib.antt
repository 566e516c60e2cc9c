pub mod Choice
pub mod Route
