use Rattle.kahn_check.proofs.Common.{rules, ◌∙◌}
use Rattle.kahn_check.proofs.Told.{first_met, made_named, sound}
use Rattle.kahn_check.proofs.part.check.Goals as goal

pub kept-requires : goal.kept-requires
kept-requires c =
    let t = c.args.program in
    let is = c.in-Ok.ensures in
    let wired = sound t c.in-Ok.walked.faults.items is.told (search rules) in
    record { wired = wired; lines = is.lines; numbers = is.numbers ∙ made_named t t.instances.items wired.instances }

pub returns-in-Some : goal.returns-in-Some
returns-in-Some c = first_met c.args.program c.in-Some.fault c.in-Ok.walked.faults.items c.in-Ok.ensures.told (search rules)
