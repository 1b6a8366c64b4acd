-- What is told to be for ever is.
use Rattle.kahn_explanation.proofs.Common.{◌≡◌, ℕ, Option, true, Schema, Inputs, IsRight, Answer, Verdict, Finished, Bound, Memory, is_final, is_stopped, lasts, Standing, Input, Stopped, Ring, IsEndedOrFaulted, IsFinal, LastForGood}
use Rattle.kahn_chain.specs.declared.reason.Standing.TheVariants as S
use Rattle.kahn_chain.specs.declared.reason.Cause.{Cause}
use Rattle.kahn_explanation.proofs.Stands.{for_good}

over : (s : Standing) → is_stopped s ≡ true → IsEndedOrFaulted s
over (S.Waits c) h = absurd cc
over S.More h = absurd cc
over s h = tt

final : (y : Cause) → is_final y ≡ true → IsFinal y
final (Input z c) h = absurd cc
final (Stopped z s) h = over s h
final (Ring z) h = tt

last : (v : Verdict) (y : Cause) → lasts v y ≡ true → (v ≡ Memory → ⊥) × IsFinal y
last Finished y h = (λ e. absurd cc, final y h)
last Bound y h = (λ e. absurd cc, final y h)
last Memory y h = absurd cc

pub for_ever : (N : Schema) (I : Inputs) (bound : ℕ) (watch : Option ℕ) (a : Answer) → IsRight N I bound watch a → LastForGood N I a
for_ever N I bound watch a right r is h =
    let (clear, final) = last a.verdict r.cause (rw is.lasts at h) in
    for_good N I bound watch a right clear r.instance r.end r.cause is.end is.cause final
