use Rattle.kahn_job.proofs.Common.{◌≡◌, ◌++◌, drop, length, cells_of, rows_of, AreSamePlaces, tolds_of}
use Rattle.kahn_job.proofs.handing.seat.Given as goal

abbrev pub invariant-loop-tap : goal.invariant-loop-tap
invariant-loop-tap l =
    (goal.iterator-loop-tap).can_next l.tap-iterator
    × (goal.iterator-loop-tap).is_finite l.tap-iterator
    × (l.instance ≡ length l.yielded)
    × (l.fn.taps.items ≡ l.yielded ++ l.tap-iterator.rest.items)
    × (length l.idles.items ≡ length l.fn.idles.items)
    × (rows_of l.idles.items ≡ rows_of l.fn.idles.items)
    × (cells_of l.idles.items ≡ tolds_of l.yielded ++ drop (length l.yielded) (cells_of l.fn.idles.items))
    × AreSamePlaces (cells_of l.idles.items) (tolds_of l.fn.taps.items)
