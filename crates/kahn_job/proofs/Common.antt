-- The names of specs and of the crates below that several proofs cite, passed on from one place.
pub use Rattle.std.proofs.Common.{Bool, Err, IfSome, List, None, Ok, OnErr, OnOk, Option, Result, Some, [], ap, arith, drop, false, inl, inr, length, map, refl, replicate, rules, slice_get, slice_index_or, slice_set, subst, suc, sym, take, true, zero, ℕ, ⊎_elim, ◌+◌, ◌++◌, ◌<◌, ◌∙◌, ◌∷◌, ◌≡◌, ◌≤◌, ◌⊎◌, append_assoc, length-append}
pub use Rattle.std.proofs.lemmas.Bool.{cases_eq, cases_lt}
pub use Rattle.std.proofs.lemmas.List.{get_or-set_other, get_or-set_same, get_or_past, length-set, length-map, length-replicate, map-append, map-set, replicate-append-replicate}
pub use Rattle.std.proofs.lemmas.Option.{none-some, same_Some, slice_get_within, get_or_from_slice_get, slice_get-map}
pub use Rattle.std.specs.Vec.{vec_capacity}
pub use Rattle.kahn_code.proofs.Lists.{AreFirst, none_first, one_first}
pub use Rattle.kahn_code.specs.Lines.{Joins, Waiting}
pub use Rattle.kahn_code.specs.Standing.{Grows, Site}
pub use Rattle.kahn_code.specs.inner.{Gone.nothing_gone, Tapped.Tapped}
pub use Rattle.kahn_code.specs.Progress.{IsAt, IsSameProcess, IsStill, CellView, site_of, told_view, IsPause, Paused}
pub use Rattle.kahn_lane.specs.LaneEnds.{left, receiver_lane, sender_lane, sender_name, sent}
pub use Rattle.kahn_lane.specs.Places.{lane_name, moved_to}
pub use Rattle.kahn_lane.specs.declared.name.LaneName.{LaneName}
pub use Rattle.kahn_streams.proofs.Proved.{prefix_refl, prefix_trans}
pub use Rattle.kahn_streams.proofs.Sourced.{handed_within, reads, reads_listed, writes, writes_listed}
pub use Rattle.kahn_streams.specs.Answers.{is_output}
pub use Rattle.kahn_streams.specs.Inputs.{Lists, inputs_of}
pub use Rattle.kahn_streams.specs.Network.{Actual, Hands, IsOnly, IsReader, IsServed, IsWithin, IsWriter, Schema, Reads, Writes, actual_at, idle, instance_at, network_of, role_at}
pub use Rattle.kahn_streams.specs.Solution.{AreInputsExtended}
pub use Rattle.kahn_streams.specs.Wiring.{IsWellWired, side_at}
pub use Rattle.kahn_streams.specs.declared.sides.Side.{Side}
pub use Rattle.kahn_streams.specs.declared.tree.Program.{Program}
pub use Rattle.kahn_streams.specs.declared.tree.Role.{Role}
pub use Rattle.kahn_streams.specs.declared.tree.Role.TheVariants.{Inner, Input, Output}
pub use Rattle.kahn_streams.specs.inner.Sources.{IsFed}
pub use Rattle.kahn_job.specs.inner.Berths.{AreServed, HasStayed, HaveAdvanced, HaveFlushed, IsWithinInput, Serves, end_at, identities, AreBehindOn, AreJoinedOn, AreSoOn, HasPlace, HaveStayed, end_in, end_of_side}
pub use Rattle.kahn_job.specs.inner.Ends.{TaskEnd, HasRoom, Identity, IsBehind, IsFlushed, IsSame, Lane, ShareLane, identity_of}
pub use Rattle.kahn_job.specs.inner.Idles.{AreIdle, CanGoOn, HaveMet, HaveSettled, IsIdle, cells_of, rows_of, AreEndsSo, AreEndsAt, AreSamePlaces, tolds_of, AreJobsAt, HasNoEnds, HaveNoEnds, IsAhead, ServesAt, placed}
pub use Rattle.kahn_job.specs.inner.Settling.{AreElsewhere, AreResting, AreSettled, BothSettle, CanFeed, CanSettle, GoesOrStays, HasExchanged, HasSettled, HasStood, HaveExchanged, HaveStood, IsCarried, IsOfBefore, ServedBefore}
pub use Rattle.kahn_job.specs.inner.Tasks.{Continues, IsTrueOf, Tasked, standing_after}
pub use Rattle.kahn_job.specs.inner.Ways.{end_of, feeding, no_end, putting}
pub use Rattle.kahn_job.specs.inner.Works.{HasPaused, IsJob, IsSamePlace, Work, width_of}
pub use Rattle.kahn_code.specs.inner.Gone.{Gone}
pub use Rattle.std.proofs.Math.Seq.{map-set_same}
pub use Rattle.std.specs.Prelude.{option_map}
