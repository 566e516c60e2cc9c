pub mod Counts
pub mod WalkLaws
