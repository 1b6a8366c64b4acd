pub mod Notes
pub mod Words
pub mod Hints
pub mod Near
