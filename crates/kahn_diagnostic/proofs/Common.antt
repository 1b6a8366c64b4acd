-- The names of the crates below and of this crate's definitions that proofs cite, passed on from one place.
pub use Rattle.kahn_diagnostic.specs.Marks.{columns, is_within, near_piece, piece_of, shown_row, with_places}
pub use Rattle.kahn_texts.specs.Shown.{shown_character, shown_text, times_over}
pub use Rattle.kahn_diagnostic.specs.Notes.{below_text, other_text}
pub use Rattle.kahn_texts.specs.Shown.{ends_before, shown_length}
pub use Rattle.std.proofs.Common.{Bool, Bor, IsUtf8, List, None, Option, Some, [], add-one, ap, append-nil, append_assoc, arith, chars, codes, drop, encode_utf8, false, flat_map, if◌then◌else◌, inl, inr, length, length-append, count_by, min, nat_le, nat_lt, not, option_map, refl, slice_get, slice_index_or, string_bytes, subst, suc, sym, take, true, unwrap_or, zero, ℕ, ◌&&◌, ◌++◌, ◌+◌, ◌-◌, ◌<◌, ◌==◌, ⊎_elim, ◌∙◌, ◌∷◌, ◌≡◌, ◌≤◌, ◌⊎◌}
pub use Rattle.std.proofs.lemmas.Str.{IsUtf8-drop, IsUtf8-past_char, IsUtf8-take, chars-append, chars-nil, chars_past_char, encodes-chars, len_utf8_bounds, length-encode}
pub use Rattle.std.specs.Str.{IsCharBoundary, encode_utf8_all}
pub use Rattle.std.specs.Str.Iter.{char_indices_offset, char_indices_rest, chars_rest}
pub use Rattle.kahn_diagnostic.specs.declared.{rows.Row.Row}
pub use Rattle.kahn_streams.specs.Place.{column_of, line_of}
pub use Rattle.std.proofs.lemmas.{Bool.cases_lt, List.take_all}
pub use Rattle.std.specs.List.{suffix_len}
