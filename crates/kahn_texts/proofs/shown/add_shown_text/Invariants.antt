-- What is left of the text comes behind what was added.
use Rattle.std.proofs.Common.{◌≡◌, ◌++◌, IsUtf8, chars, flat_map, string_bytes}
use Rattle.std.specs.Str.Iter.{chars_rest}
use Rattle.kahn_texts.specs.Shown.{shown_character, shown_text}
use Rattle.kahn_texts.proofs.shown.add_shown_text.Given as goal

abbrev pub invariant-loop-character : goal.invariant-loop-character
invariant-loop-character l =
    IsUtf8 (chars_rest l.character-iterator)
    × (string_bytes l.text ++ flat_map shown_character (chars (chars_rest l.character-iterator)) ≡ string_bytes l.initial.text ++ shown_text l.shown)
