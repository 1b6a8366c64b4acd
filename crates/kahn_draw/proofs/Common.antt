-- The names of the crates below and of this crate's definitions that proofs cite, passed on from one place.
pub use Rattle.kahn_chain.specs.Chain.{AreStandings, stands}
pub use Rattle.kahn_draw.specs.Drawing.{IsDrawn, IsDrawnFor, IsNotDrawn, IsPictureFor, IsPictureOf, IsPictured, IsRunOf, IsEndedPicture, IsUnrunFor}
pub use Rattle.kahn_streams.specs.Network.{network_of}
pub use Rattle.std.proofs.Common.{Err, List, None, Ok, Option, Result, [], append-nil, inl, inr, map, refl, rules, string_bytes, subst, sym, ℕ, ◌++◌, ◌≡◌}
