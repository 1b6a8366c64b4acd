pub mod Forms
pub mod Pace
pub mod Live
pub mod Refusals
pub mod inner
