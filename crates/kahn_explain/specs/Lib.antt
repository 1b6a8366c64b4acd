pub mod Histories
pub mod Needing
pub mod Running
pub mod Untaken
pub mod inner
