-- What is left of the groups, and then of the classes, comes behind the text so far, and is so many pieces.
use Rattle.kahn_program_notes.proofs.Common.{◌≡◌, ◌+◌, ◌-◌, ◌++◌, drop, length, map, string_bytes, listed, pieces_of, text_end_words, wanted_words, any_words}
use Rattle.kahn_program_notes.proofs.syntax.unexpected.add_wanted.Given as goal

abbrev pub invariant-loop-group : goal.invariant-loop-group
invariant-loop-group l =
    (string_bytes l.words ++ listed (map wanted_words (drop l.group-index l.wanted.groups.items) ++ (map any_words l.wanted.others.items ++ text_end_words l.fn.what))
    ≡ string_bytes l.fn.words ++ listed (pieces_of l.wanted l.fn.what))
    × (l.left ≡ (length l.wanted.groups.items - l.group-index) + (length l.wanted.others.items + l.ends))

abbrev pub invariant-loop-class : goal.invariant-loop-class
invariant-loop-class l =
    (string_bytes l.words ++ listed (map any_words (drop l.class-index l.wanted.others.items) ++ text_end_words l.fn.what) ≡ string_bytes l.fn.words ++ listed (pieces_of l.wanted l.fn.what))
    × (l.left ≡ (length l.wanted.others.items - l.class-index) + l.ends)
