mod Common
mod Classes
mod Front
mod Gaps
pub mod Leading
mod Walking
