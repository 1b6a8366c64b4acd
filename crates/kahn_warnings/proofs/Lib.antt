mod Common
mod Lists
mod Getting
mod Folding
pub mod Holding
mod Unchanged
pub mod Unseen
mod Innocent
pub mod Nowhere
