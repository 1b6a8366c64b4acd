pub mod Pieces
mod Nearest
mod Telling
pub mod Common
