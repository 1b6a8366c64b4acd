mod Good
pub mod Noted
pub mod Parts
pub mod Refused
pub mod Right_ends
pub mod Stands
mod Lasting
mod Unfed
pub mod Common
