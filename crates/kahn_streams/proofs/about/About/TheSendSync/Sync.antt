-- It owns nothing, so any thread may share it.
use Rattle.kahn_streams.proofs.Common.{RattleType, IsSync, part_keyless, the_row}
use Rattle.kahn_streams.proofs.about.About.TheSendSync.Send.{send}

pub sync : (Y : RattleType) → IsSync (the_row Y)
sync Y = record { shared = λ d b o κ q. part_keyless (the_row Y) (send Y) q d b o }
