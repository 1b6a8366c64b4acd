-- What was added and the words that are left stand for all.
use Rattle.kahn_line.proofs.Common.{◌≡◌, ◌++◌, length, map, string_bytes, joined_words}
use Rattle.kahn_line.proofs.live.joined_words.Given as goal

abbrev pub invariant-words : goal.invariant-words
invariant-words g l = joined_words (map g.S.AsStr.text l.words) ≡ map string_bytes l.all.items ++ joined_words (map g.S.AsStr.text l.rest)

abbrev pub decreases-words : goal.decreases-words
decreases-words g l = length l.rest
