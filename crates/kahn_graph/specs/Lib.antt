pub mod Graph
pub mod Ran
pub mod inner
