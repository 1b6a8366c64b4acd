-- The names of specs and of the crates below that several proofs cite, passed on from one place.
pub use Rattle.std.proofs.Common.{All, Bool, IsSome, List, None, Option, Some, [], ap, arith, cond, drop, eq-eqb, eqb, false, get_or, get_or-set_other, get_or-set_same, inl, inr, is_some, length, length-append, length-set, map, max, ne_eqb, refl, replicate, reverse, rules, set, slice_index, slice_index_or, subst, suc, sym, take, take_all, true, true≢false, zero, ℕ, ⊎_elim, ◌%◌, ◌*◌, ◌++◌, ◌+◌, ◌-◌, ◌/◌, ◌<◌, ◌==◌, ◌^◌, ◌∙◌, ◌∷◌, ◌≡◌, ◌≢◌, ◌≤◌, ◌⊎◌}
pub use Rattle.std.proofs.lemmas.List.{append_assoc, get_or_append_left, get_or_push, length-map, map-append, reverse-append, get_or_default}
pub use Rattle.std.proofs.lemmas.Option.{none-some, same_Some}
pub use Rattle.std.specs.Slots.{slots_filled, slots_items, slots_len}
pub use Rattle.std.specs.List.{list_any, position, position_or_len}
pub use Rattle.std.specs.Vec.{vec_capacity}
pub use lib.ListN.{get_elem?, get_or-eq_default}
pub use lib.Seq.{set-get_or}
pub use mathlib.Core.Logic.{dite}
pub use mathlib.Core.Option.{none, some, some-injective, some-ne-none}
pub use native.Mathlib.Decide.{dec_le, ℕ_discrete}
pub use prog.Atomic.{either}
pub use Rattle.atomic_table.proofs.Lists.{at_longer, at_map, at_set, exchanged, set_else, set_here}
pub use Rattle.atomic_table.specs.Seated.{TableId}
pub use Rattle.atomic_table.specs.Table.{Act, Allows, Joins, Splits, Valid, carried_after, gives, keeps, opening, rest, step, stepped, takes, turned}
pub use Rattle.kahn_streams.specs.Network.{Actual, Hands, Node, Schema, Reads, Writes, channels_of, idle, is_written, network_of}
pub use Rattle.kahn_streams.specs.declared.sides.Side.{Side}
pub use Rattle.kahn_streams.specs.declared.tree.Program.{Program}
pub use Rattle.kahn_board.specs.Calls.{Claims, IsFirstSlot, IsSameSeat, KeepsAll, Leaves, Looks, MayLeave, OwesFew, Unowed, Was, downs_of, AreCut, HoldsNothing, IsFree, split_off, after_joining, after_splitting}
pub use Rattle.kahn_board.specs.Rule.{Apart, Owed, Owes, below, is_up, Whereabouts, held, held_by, mark_of, only, over, parked, parked_on, ready, total, word_code, belongs, dealt, events_told, holds, wired, AllLeft, Deal, HasSlot, HomeIs, IsHalter, IsHome, PlaceIs, Quiet, Ruled, SeatIs, St, Whole, WordWas, all_parts, blank, budget, up_count, halt_word, opening_view, published, spent, budget_at, halted_at}
pub use Rattle.kahn_board.specs.Plays.{becomes, Carries, Facts, ListsHands, Got, IsIn, Sat, SeesMore, at_moment, burden, with_published, after_giving_up, after_halting, after_step, after_counting_down, after_counting_up, after_looking, sees_budget, sees_count, sees_halted, after_taking, after_giving_back, after_reporting, after_waking}
pub use Rattle.kahn_board.proofs.Tells.{GaveUp, TheFirst, claimed, drew, first_of, parked_or_not, publishes, sees, set_down, steps_of}
pub use Rattle.kahn_board.specs.Wires.{Accounts, FlushedAll, Summary, TellsEnd, TellsEvents, TellsWait, events_past, second_of, Wires, is_read}
unfoldable pub use Rattle.kahn_board.specs.Wires.{wires}
pub use Rattle.kahn_board.specs.declared.board.Board.{Board}
pub use Rattle.kahn_board.specs.declared.seat.Seat.{Seat}
pub use Rattle.kahn_board.specs.declared.board.Terms.{Terms}
pub use Rattle.kahn_board.specs.declared.view.SeatView.{SeatView}
pub use Rattle.kahn_board.specs.inner.Turn.{AreLost, Fits, HasPublished, InTurn, IsBetween, IsBetweenTurns, IsSeatOf, RestsWith, AreFirstWords, SitsAt, done_of, parts_of, raised_of}
pub use Rattle.kahn_board.specs.Opening.{ClosesBoard, IsCell, IsQuietCell, Opens}
pub use Rattle.kahn_streams.specs.Wiring.{IsWellWired, declared_channels, side_at}
pub use Rattle.std.proofs.lemmas.List.Sums.{position_or_len_is, sum_by_push}
pub use Rattle.std.specs.Prelude.{nat_lt, pos}
