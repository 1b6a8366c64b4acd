-- What only proofs and clauses below the surface read.
pub mod Spots
