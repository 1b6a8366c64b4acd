mod Refused
mod Places
pub mod Worked
pub mod Common
