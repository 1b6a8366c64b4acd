-- What only proofs and clauses below the surface read.
pub mod Columns
pub mod Told
