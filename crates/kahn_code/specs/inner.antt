pub mod Copies
pub mod Feeds
pub mod Gone
pub mod Tapped
pub mod Forms
pub mod Opening
