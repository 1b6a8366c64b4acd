-- Whether it is told how a run ended that has no fault and the status 0.
use Rattle.kahn_live.proofs.Common.{◌≡◌, Bool, true, false, Option, inr, HeldRun, IsFaulty, IsRinged, Verdict, IsEndWanted, reached_status}
use Rattle.kahn_live.specs.declared.running.Amiss.{Amiss}

pub by_ring : (h : HeldRun) (amiss : Option Amiss) (refused : Bool) (v : Verdict) (ring : Bool) → reached_status amiss refused v ≡ 0 → IsFaulty h false → IsRinged h ring
    → IsEndWanted h amiss refused v ring
by_ring h amiss refused v true zero none ringed = inr (inr ringed)
by_ring h amiss refused v false zero none ringed = (zero, none, ringed)
