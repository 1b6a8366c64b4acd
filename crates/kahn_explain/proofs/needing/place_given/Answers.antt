use Rattle.std.proofs.Common.{ℕ, List, ap, Bor, option_map}
use Rattle.kahn_explain.proofs.Worded.{none_given}
use Rattle.kahn_explain.proofs.needing.place_given.Goals as goal

pub returns-in-None-place_of : goal.returns-in-None-place_of
returns-in-None-place_of c =
    none_given _ c.in-Some.word.now (ap (λ o. option_map {T = Bor (List ℕ)} {U = List ℕ} (λ t. t.now) o) c.in-Some.is) c.in-None-place_of.ensures
