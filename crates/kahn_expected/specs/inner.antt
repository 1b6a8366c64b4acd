pub mod Asked
pub mod Passing
pub mod Walk
