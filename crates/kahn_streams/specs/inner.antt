pub mod Marked
pub mod Words
pub mod Numbers
pub mod Sources
pub mod Stored
