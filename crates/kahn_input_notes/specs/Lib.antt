pub mod Feeding
pub mod Fitting
pub mod Placed
pub mod Refused
pub mod Seeking
