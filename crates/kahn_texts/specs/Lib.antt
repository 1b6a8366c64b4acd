pub mod Flushes
pub mod Formats
pub mod News
pub mod Reading
pub mod Shown
pub mod inner
