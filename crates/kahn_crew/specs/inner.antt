pub mod Left
pub mod Planned
pub mod Tasks
pub mod Turns
pub mod Words
