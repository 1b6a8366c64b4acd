mod Drawn
pub mod Common
