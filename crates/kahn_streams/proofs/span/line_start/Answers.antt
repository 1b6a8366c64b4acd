use Rattle.std.proofs.Common.{◌≡◌, ℕ, ◌<◌, ◌==◌, not, true, sym, arith}
use Rattle.std.proofs.{lemmas.Bool.Decides.nat_tests, lemmas.List.Sums.suffix_len_is}
use Rattle.kahn_streams.proofs.span.line_start.Goals as goal

other : (b : ℕ) → ¬ (b ≡ 10) → not (b == 10) ≡ true
other b h = grind (arith, nat_tests)

pub returns-after-bytes-clause-line : goal.returns-after-bytes-clause-line
returns-after-bytes-clause-line c =
    let i = c.bytes.invariant in
    let none : (A : Type 0) → 0 < c.bytes.at → A = λ A some. absurd (omega arith) in
    sym (suffix_len_is _ c.args.text.now c.bytes.at 0 i.inside (λ k low high. other _ (i.passed k low high)) (none _))
