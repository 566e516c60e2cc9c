pub mod Survey
pub mod Found
pub mod Booking
pub mod Cancelling
