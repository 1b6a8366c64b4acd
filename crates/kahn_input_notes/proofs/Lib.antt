mod Fitted
mod Placed
mod Sought
pub mod Common
