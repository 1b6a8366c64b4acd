pub mod Drawing
pub mod Running
