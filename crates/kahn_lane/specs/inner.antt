pub mod LaneRule
pub mod RelayRule
pub mod Settles
pub mod Rights
