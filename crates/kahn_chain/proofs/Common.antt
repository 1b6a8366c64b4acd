-- The names of the crates below and of this crate's definitions that proofs cite, passed on from one place.
pub use Rattle.kahn_chain.specs.Chain.{AreStandings, Awaits, IsCause, IsLeastOfRing, IsNoWait, IsRingMark, Leads, LeadsOn, onward, standing_of, stands, stays}
pub use Rattle.kahn_chain.specs.inner.Reasoned.{AreSoFar, reasons_at, told_at}
pub use Rattle.kahn_chain.specs.inner.Walk.{IsOnWay, IsHere, IsStepFrom, IsStop, IsWalked}
pub use Rattle.kahn_streams.specs.Network.{Given, Schema, Reads, Written, actual_at, channel_source, instance_at, network_of}
pub use Rattle.std.proofs.Common.{All, Bool, eq-eqb, eqb-true, List, None, Option, Some, [], ap, append_assoc, ap₂, arith, drop, false, get_or, get_or-set_other, get_or-set_same, inl, inr, length, length-append, length-set, map, min, refl, replicate, rules, set, subst, suc, sym, take, true, zero, ℕ, ⊎_elim, ◌++◌, ◌+◌, ◌<◌, ◌∙◌, ◌∷◌, ◌≡◌, ◌≤◌, ◌⊎◌}
pub use Rattle.std.proofs.lemmas.Bool.{cases_eq, cases_lt}
pub use Rattle.std.proofs.lemmas.List.{at_drop_more, length-map, length-replicate, map-append}
pub use Rattle.std.proofs.lemmas.Option.{slice_get-get_or, slice_get-map, slice_get_within}
pub use Rattle.std.specs.List.{slice_get}
pub use Rattle.std.specs.Prelude.{option_map, slice_index_or, ◌==◌, ◌||◌}
pub use Rattle.kahn_chain.specs.declared.{reason.Cause.Cause, reason.Cause.TheVariants.Input, reason.Cause.TheVariants.Ring, reason.Cause.TheVariants.Stopped, reason.Standing.Standing}
pub use Rattle.kahn_streams.specs.declared.{answer.End.End, answer.Outcome.Outcome, answer.Outcome.TheVariants.Ended, answer.Outcome.TheVariants.Faulted, answer.Outcome.TheVariants.More, answer.Outcome.TheVariants.Waits, answer.Verdict.Verdict}
