pub mod Draw
pub mod Explain
pub mod Line
pub mod Parts
pub mod Live
pub mod Refusal
