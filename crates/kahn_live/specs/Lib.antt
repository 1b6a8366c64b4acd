pub mod Lines
pub mod Rows
pub mod Course
pub mod InputMet
pub mod Histories
pub mod Running
pub mod inner
