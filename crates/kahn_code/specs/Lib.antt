pub mod Common
pub mod Flat
pub mod Cells
pub mod Code
pub mod Standing
pub mod Lines
pub mod Progress
pub mod inner
