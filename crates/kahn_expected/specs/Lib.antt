pub mod Comments
pub mod Wanted
pub mod inner
