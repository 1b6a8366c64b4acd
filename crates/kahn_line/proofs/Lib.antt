pub mod Asked
pub mod Live_asked
pub mod Common
pub mod Kept
