-- A list with room takes what is pushed.
use Rattle.kahn_sequential.proofs.Common.{◌≡◌, ◌+◌, ◌<◌, ◌≤◌, ℕ, arith, if◌then◌else◌}
use Rattle.std.proofs.Common.{Err, Ok, Result}
use Rattle.std.specs.Prelude.{is_ok, OnErr, OnOk}

pub added : {E : Type 0} {L : Type 0} (r : Result (Unit {0}) E) (room room' : ℕ) (new more old : L) → OnErr r (room' ≡ 0) → OnErr r (room' ≡ room) → 0 < room → new ≡ (if is_ok r then more else old) → new ≡ more
added (Ok x) room room' new more old full same lt e = e
added (Err x) room room' new more old full same lt e = absurd (omega (arith, full, same, lt))

pub room_after : {E : Type 0} (r : Result (Unit {0}) E) (room room' : ℕ) → OnErr r (room' ≡ room) → OnOk r (room ≤ room' + 1) → room ≤ room' + 1
room_after (Ok x) room room' same less = less
room_after (Err x) room room' same less = omega (arith, same)
