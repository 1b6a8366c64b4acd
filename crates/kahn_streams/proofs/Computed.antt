-- The examples hold by computation.
use Rattle.std.proofs.Common.{refl}
use Rattle.kahn_streams.specs.Examples.{Counting, Doubling, Overflowing, Ring, OwnChannel, Alternating, Silent, LimitedSample}

pub counting_holds : Counting
counting_holds = record { stream = refl; end = refl; events = refl; just = refl; cut = refl; nothing = refl }

pub doubling_holds : Doubling
doubling_holds = record { stream = refl; end = refl; events = refl; dry = refl }

pub overflowing_holds : Overflowing
overflowing_holds = record { stream = refl; end = refl; events = refl }

pub ring_holds : Ring
ring_holds = record { end = refl; events = refl }

pub own_channel_holds : OwnChannel
own_channel_holds = record { printed = refl; end = refl; events = refl }

pub alternating_holds : Alternating
alternating_holds = record { end = refl; events = refl }

pub silent_holds : Silent
silent_holds = record { end = refl; events = refl }

pub limited_sample_holds : LimitedSample
limited_sample_holds = record { printed = refl; events_f = refl; events_g = refl; events_first_h = refl; events_second_h = refl }
