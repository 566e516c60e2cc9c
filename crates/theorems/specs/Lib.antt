pub mod Entries
pub mod Freed
pub mod Rings
pub mod Program
pub mod Faults
pub mod Theorems
