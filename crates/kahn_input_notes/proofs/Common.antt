-- The names of the crates below and of this crate's definitions that proofs cite, passed on from one place.
pub use Rattle.kahn_input_notes.specs.Feeding.{IsInputNote, IsKindFor, IsLineNote, sought_of}
pub use Rattle.kahn_input_notes.specs.Fitting.{AreAllFit, IsFitPart, IsUnfit, IsUnfitSpan, IsUnfitWord, lack_place, line_name, moved_by, name_span, part_of, parts_length, rest_from}
pub use Rattle.kahn_input_notes.specs.Seeking.{CountsAs, CountTo, IsFound, IsUnfound, has_line_name}
pub use Rattle.kahn_streams.specs.Inputs.{Entry, FailsFirst, asked_of_entry}
pub use Rattle.kahn_texts.specs.Formats.{AreBlanks, AreEntries, HasHead, IsEntry, IsInputTextFault, content, is_blank, text_lines}
pub use Rattle.std.proofs.Common.{All, Bool, List, None, Option, Some, [], add-one, ap, ap₂, arith, cond, drop, drop-cons, false, get_or, inl, inr, length, refl, rules, slice_get, subst, suc, sym, take, take-append-drop, tests, true, zero, ℕ, ◌++◌, ◌+◌, ◌-◌, ◌<◌, ◌==◌, ◌∙◌, ◌∷◌, ◌≡◌, ◌≤◌, ◌⊎◌}
pub use Rattle.std.proofs.lemmas.Iterator.Consumers.{YieldsList-end, YieldsList-turn}
pub use Rattle.std.proofs.lemmas.Iterator.Splits.{YieldsList-from_slice_split}
pub use Rattle.std.proofs.lemmas.List.{length_push, take_all}
pub use Rattle.std.specs.List.{onto_first, slice_split}
