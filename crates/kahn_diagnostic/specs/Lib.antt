pub mod Fixes
pub mod Marks
pub mod Near
pub mod Notes
pub mod Told
pub mod inner
