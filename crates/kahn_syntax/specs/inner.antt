pub mod Items
pub mod Machine
pub mod Reads
