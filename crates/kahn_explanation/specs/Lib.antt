pub mod Data
pub mod Noting
pub mod Refusing
pub mod Telling
pub mod Why
pub mod inner
