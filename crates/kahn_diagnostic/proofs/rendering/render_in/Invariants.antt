-- Behind the place of the note and its change stand the sentences so far, and then the other places so far.
use Rattle.kahn_diagnostic.proofs.Common.{◌≡◌, ◌++◌, take, flat_map, string_bytes, below_text, other_text}
use Rattle.kahn_diagnostic.specs.Notes.{head_text}
use Rattle.kahn_diagnostic.proofs.rendering.render_in.Given as goal

abbrev pub invariant-loop-sentence : goal.invariant-loop-sentence
invariant-loop-sentence l = string_bytes l.lines ≡ head_text l.path l.text l.note ++ flat_map (below_text l.text l.note.span) (take l.sentence-index l.note.below.items)

abbrev pub invariant-loop-other : goal.invariant-loop-other
invariant-loop-other l = string_bytes l.lines ≡
    head_text l.path l.text l.note ++ flat_map (below_text l.text l.note.span) l.note.below.items ++ flat_map (other_text l.path l.text) (take l.other-index l.note.others.items)
