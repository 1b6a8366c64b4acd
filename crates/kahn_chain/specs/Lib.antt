pub mod Chain
pub mod Reasons
pub mod inner
