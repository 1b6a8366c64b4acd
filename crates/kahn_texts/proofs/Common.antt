-- The names of the crates below and of this crate's definitions that proofs cite, passed on from one place.
pub use Rattle.kahn_streams.specs.Inputs.{AreFit, Entry, FailsFirst, IsFirstRefused, IsInputOf, Lists, asked_of_entry, channel_of, entry_of, inputs_of, is_given, list_for}
pub use Rattle.kahn_streams.specs.Network.{Node, channel_names, channels_of, network_of}
pub use Rattle.kahn_streams.specs.Written.{AppendsFront, Writes, line_feed, spaced_text}
pub use Rattle.kahn_texts.specs.Formats.{AreBlanks, AreEntries, AreFirstEntries, AreValues, HasHead, HasItsLines, HasNoHead, HasNoValues, IsEntriesFault, IsEntry, IsGood, IsInputText, IsInputTextFault, IsLine, IsLineFault, IsName, IsValue, SpellsValues, StandsFor, channel_count, content, end_text, ends_text, instance_count, is_blank, is_word_byte, line_head, most_input_bytes, stream_text, text_lines, values_line, told_of_input}
pub use Rattle.kahn_texts.specs.inner.Pieces.{piece_text}
pub use Rattle.std.proofs.Common.{All, Bool, Bor, Err, IsErr, List, MatchOption, None, Ok, Option, Result, Some, [], add-one, ap, append-nil, append_assoc, arith, codes, cond, decimal, drop, drop-cons, drop_of_length-le, eqb-true, false, flat_map, get_or, if◌then◌else◌, inl, inr, le_antisymm, length, length-append, length-take, length-take-le, map, nat_le, nat_lt, not, refl, rules, slice_get, slice_index, subst, suc, sym, take, take-append-drop, tests, true, vec_len, zero, ℕ, ℤ, ◌&&◌, ◌*◌, ◌++◌, ◌+◌, ◌-◌, ◌<◌, ◌==◌, ◌^◌, ◌||◌, ◌∙◌, ◌∷◌, ◌≡◌, ◌≢◌, ◌≤◌, ◌⊎◌}
pub use Rattle.std.proofs.KnownBytes.{Appends-kept, Appends-nil, Appends-trans, Consumes-trans}
pub use Rattle.std.proofs.Math.Seq.{drop-append_seam, take-append_seam}
pub use Rattle.std.proofs.lemmas.Bool.{cases_lt, leb-true, lt-ltb}
pub use Rattle.std.proofs.lemmas.Bool.Decides.{leb_tells, nat_tests}
pub use Rattle.std.proofs.lemmas.Fmt.{IsAscii-from_digits, length-decimal-le}
pub use Rattle.std.proofs.lemmas.Grind.{flat_map-append}
pub use Rattle.std.proofs.lemmas.Iterator.Consumers.{YieldsList-end, YieldsList-turn}
pub use Rattle.std.proofs.lemmas.Iterator.Splits.{YieldsList-from_slice_split}
pub use Rattle.std.proofs.lemmas.List.{flat_map_more, length-map, length_push, map-append, take-append-le, take_rest}
pub use Rattle.std.proofs.lemmas.List.Elements.{All-append}
pub use Rattle.std.proofs.lemmas.List.Folds.{length-flat_map-take}
pub use Rattle.std.specs.Char.{is_ascii_alphabetic, is_ascii_alphanumeric, to_ascii_lowercase}
pub use Rattle.std.specs.Io.KnownBytes.{Appends, Consumes, Keeps}
pub use Rattle.std.specs.List.{AllByRecursion, list_any, position, position_or_len, prefix_len, slice_split}
pub use Rattle.std.specs.Option.{unwrap_or}
pub use Rattle.std.specs.Slice.Iter.{chunks_rest}
pub use Rattle.std.specs.Str.{IsAscii, IsUtf8, str_eq_ignore_ascii_case, str_to_ascii_lowercase}
pub use Rattle.std.specs.Str.Parse.{AllDigits, without_leading_sign}
pub use Rattle.kahn_streams.specs.declared.{answer.End.End, answer.Stream.Stream, entries.InputFault.InputFault, tree.Program.Program, value.Line.Line, value.Value.Value, value.Value.TheVariants.Integer, value.Value.TheVariants.Logical}
pub use Rattle.std.specs.declared.{alloc.Global.Global, vec.Vec.Vec}
