pub mod Alone
pub mod Explained
pub mod Page
pub mod Picture
pub mod Whole
