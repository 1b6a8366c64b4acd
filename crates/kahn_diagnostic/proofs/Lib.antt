mod Boundaries
mod Counted
mod Ends
mod Pieces
mod Written
pub mod Common
