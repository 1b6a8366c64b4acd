pub mod Steps
pub mod Showing
pub mod Fresh
pub mod Taking
pub mod Named
pub mod Rows
pub mod Waiting
pub mod Common
