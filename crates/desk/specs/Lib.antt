pub mod Planning
pub mod Transfer
pub mod Few
