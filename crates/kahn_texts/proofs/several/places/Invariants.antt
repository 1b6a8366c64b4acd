use Rattle.kahn_texts.proofs.Common.{◌≤◌, vec_len}
use Rattle.kahn_texts.proofs.several.places.Given as goal

abbrev pub invariant-loop : goal.invariant-loop
invariant-loop l = vec_len l.texts ≤ l.counter
