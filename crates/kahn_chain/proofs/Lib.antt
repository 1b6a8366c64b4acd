mod Caused
mod Leading
mod Reasoned
pub mod Standing_ends
pub mod Walking
pub mod Common
