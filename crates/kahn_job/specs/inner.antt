pub mod Berths
pub mod Ends
pub mod Idles
pub mod Settling
pub mod Tasks
pub mod Ways
pub mod Words
pub mod Works
