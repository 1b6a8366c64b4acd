-- What isn't of the ends that are left went out, by at most as many writes.
use Rattle.kahn_texts.proofs.Common.{◌≡◌, ℕ, ◌+◌, ◌≤◌, List, ◌++◌, length, drop, Appends, ends_text}
use Rattle.kahn_texts.proofs.write.put_ends.Given as goal

abbrev pub invariant-loop-instance : goal.invariant-loop-instance
invariant-loop-instance g l = (done : List ℕ)
    × (ends_text l.network 0 l.ends ≡ done ++ ends_text l.network l.instance (drop l.instance l.ends))
    × Appends (g.W.Write.contents l.initial.writer) (g.W.Write.contents l.writer) done
    × (g.C.CallCount.count l.writes ≤ g.C.CallCount.count l.initial.writes + length done)
