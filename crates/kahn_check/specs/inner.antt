pub mod Firsts
pub mod Globals
pub mod Names
pub mod Tables
pub mod Wires
