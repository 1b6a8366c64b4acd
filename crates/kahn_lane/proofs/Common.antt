-- The names of the crates below and of this crate's definitions that proofs cite, passed on from one place.
pub use Rattle.crossbeam_deque.proofs.Lists.{at_set, at_snoc}
pub use Rattle.crossbeam_deque.specs.Handles.{view, worker_flavor, worker_view}
pub use Rattle.crossbeam_deque.specs.Tasks.{Finds, FindsFew, Forks, Learns, Merges, Pushes, Takes}
pub use Rattle.kahn_lane.specs.Places.{IsOn, Named, StandFrom, both, first_place, mark, moved_to, opening_mark, owner, reading, spent_mark, tag_name, telling, token_name, told, writing_mark}
pub use Rattle.kahn_lane.specs.inner.LaneRule.{Chain, Empties, Filled, FitsLane, Flushes, IsRunning, Laned, ReadsLane, Steals, TellsName, WritesLane, size, tokens_of}
pub use Rattle.kahn_lane.specs.inner.Rights.{HasRights, HaveRights}
pub use Rattle.kahn_lane.specs.inner.Settles.{IsGrown, LiftsTo, SameLifted}
pub use Rattle.std.proofs.Common.{Bool, List, None, Option, Some, [], ap, append_assoc, arith, false, inl, inr, length, length-append, refl, set, slice_index_or, subst, suc, sym, true, true≢false, zero, ℕ, ⊎_elim, ◌++◌, ◌+◌, ◌-◌, ◌<◌, ◌^◌, ◌∙◌, ◌∷◌, ◌≡◌, ◌≢◌, ◌≤◌, ◌⊎◌}
pub use Rattle.std.specs.Vec.{vec_capacity, vec_len}
pub use lib.ListN.{get_elem?}
pub use mathlib.Core.Option.{some, some-ne-none}
pub use Rattle.kahn_lane.specs.declared.{name.LaneName.LaneName, name.Tag.Tag, segments.Mark.Mark, segments.Segment.Segment, segments.Stage.TheVariants.Opening, segments.Stage.TheVariants.Running, segments.Stage.TheVariants.Telling}
pub use Rattle.kahn_streams.specs.declared.{token.Token.Token}
