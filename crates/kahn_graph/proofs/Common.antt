-- The words that most proofs cite, passed on from one place.
pub use Rattle.kahn_chain.specs.Chain.{AreRings, IsRingMark, LeadsOn, stands}
pub use Rattle.kahn_chain.specs.declared.reason.Standing.{Standing}
pub use Rattle.kahn_chain.specs.declared.reason.Standing.TheVariants.{Ended, Faulted, More, Waits}
pub use Rattle.kahn_graph.specs.Graph.{AreTexts, IsAll, IsEdge, IsNode, IsPortText, edge_text, mark_text, node_text, values_text}
pub use Rattle.kahn_graph.specs.Ran.{IsWaitMark, carried}
pub use Rattle.kahn_graph.specs.inner.Adding.{IsWaitAt, is_wait}
pub use Rattle.kahn_streams.proofs.By_number.{at_index}
pub use Rattle.kahn_streams.specs.Network.{IsOnly, IsReader, IsWithin, IsWriter, Schema, actuals_of, channel_names, instance_at, instance_from, kind_at, network_of, process_of, role_at}
pub use Rattle.kahn_streams.specs.Prints.{declaration_prints, process_prints}
pub use Rattle.kahn_streams.specs.declared.{tree.Argument.Argument, tree.Declaration.Declaration, tree.Kind.Kind, tree.Parameter.Parameter, tree.Process.Process, tree.Program.Program, tree.Role.Role, sides.Side.Side}
pub use Rattle.kahn_streams.specs.View.{Scope, bytes_of}
pub use Rattle.kahn_streams.specs.Wires.{process_at}
pub use Rattle.kahn_streams.specs.declared.answer.{End.End, Stream.Stream}
pub use Rattle.std.proofs.Common.{Bool, IfSome, List, None, Option, Some, [], add-one, ap, append-nil, append_assoc, ap₂, arith, codes, count_by, drop, drop-cons, drop_of_length-le, false, get_or, if◌then◌else◌, inl, inr, length, length-append, map, min, not, refl, rules, slice_get, string_bytes, subst, suc, sym, take, take_all, true, zero, ℕ, ⊎_elim, ◌++◌, ◌+◌, ◌<◌, ◌==◌, ◌∙◌, ◌∷◌, ◌≡◌, ◌≤◌, ◌⊎◌}
pub use Rattle.std.proofs.lemmas.Bool.{cases_lt, eq-eqb, eqb-true}
pub use Rattle.std.proofs.lemmas.List.{length-map}
pub use Rattle.std.proofs.lemmas.Option.{get_or_from_slice_get, same_Some, slice_get-get_or, slice_get-map, slice_get_within}
pub use Rattle.std.specs.List.{concat, suffix_len}
pub use Rattle.std.specs.Prelude.{option_map}
pub use denote.Shadow.{shadow}
pub use denote.Text.{Utf8}
